-- Sums over lists that change at one place, and places in lists that grow.
use Rattle.std.proofs.Common.{◌≡◌, ℕ, zero, suc, ◌+◌, ◌<◌, ◌≤◌, ◌≢◌, ◌⊎◌, List, [], ◌∷◌, ◌++◌, length, set, sym, refl, ap, inl, inr, ⊎_elim, arith, Contains, get_or, subst}
use mathlib.Core.Option.{some, some-injective, some-ne-none}
use mathlib.Core.Logic.{dite}
use native.Mathlib.Decide.{ℕ_discrete}
use lib.ListN.{get_elem?}
use Rattle.atomic_table.proofs.Lists.{at_set}
use Rattle.history_lock.specs.Rule.{total}

module _ {A : Type 0} where
  module _ (f : A → ℕ) where
    pub total-append : (xs ys : List A) → total f (xs ++ ys) ≡ total f xs + total f ys
    total-append [] ys = omega arith
    total-append (x ∷ xs) ys = omega (arith, total-append xs ys)

    pub total-set : (xs : List A) (j : ℕ) (v w : A) → get_elem? xs j ≡ some v → total f (set xs j w) + f v ≡ total f xs + f w
    total-set [] j v w e = absurd (some-ne-none v (sym e))
    total-set (x ∷ xs) zero v w e = omega (arith, ap f (some-injective x v e))
    total-set (x ∷ xs) (suc j) v w e = omega (arith, total-set xs j v w e)

    pub total-le : (g : A → ℕ) (xs : List A) → ((j : ℕ) (v : A) → get_elem? xs j ≡ some v → f v ≤ g v) → total f xs ≤ total g xs
    total-le g [] h = omega arith
    total-le g (x ∷ xs) h = omega (arith, h 0 x refl, total-le g xs (λ j v. h (suc j) v))

  -- the place that a list has more once it has one more element
  pub at_end : (xs : List A) (x v : A) (j : ℕ) → get_elem? (xs ++ x ∷ []) j ≡ some v → (get_elem? xs j ≡ some v) ⊎ ((j ≡ length xs) × (x ≡ v))
  at_end [] x v zero e = inr (refl, some-injective x v e)
  at_end [] x v (suc j) e = absurd (some-ne-none v (sym e))
  at_end (y ∷ xs) x v zero e = inl e
  at_end (y ∷ xs) x v (suc j) e = ⊎_elim (λ h. inl h) (λ (h : (j ≡ length xs) × (x ≡ v)). inr (ap suc h.0, h.1)) (at_end xs x v j e)

  pub at_below : (xs : List A) (j : ℕ) (v : A) → get_elem? xs j ≡ some v → j < length xs
  at_below [] j v e = absurd (some-ne-none v (sym e))
  at_below (x ∷ xs) zero v e = omega arith
  at_below (x ∷ xs) (suc j) v e = omega (arith, at_below xs j v e)

  -- one place has one value
  pub at_one : (xs : List A) (j : ℕ) (v w : A) → get_elem? xs j ≡ some v → get_elem? xs j ≡ some w → v ≡ w
  at_one xs j v w p q = some-injective v w (cc)

  -- what holds of the new value and of all others holds of each
  pub set_each : (K : ℕ → A → Type 0) (xs : List A) (i : ℕ) (w : A) → K i w → ((j : ℕ) (v : A) → j ≢ i → get_elem? xs j ≡ some v → K j v) → (j : ℕ) (v : A) → get_elem? (set xs i w) j ≡ some v → K j v
  set_each K xs i w mine others j v e = ⊎_elim (λ (t : (j ≡ i) × (w ≡ v)). subst (λ (p : ℕ × A). K p.0 p.1) (λ h. (sym t.0 h, t.1 h)) mine)
      (λ (t : (j ≢ i) × (get_elem? xs j ≡ some v)). others j v t.0 t.1) (at_set xs i j w v e)

pub no_element : (k : ℕ) → Contains [] k → ⊥
no_element k h = let l = h.1 in omega arith

pub sole : (x k : ℕ) → Contains (x ∷ []) k → x ≡ k
sole x k h = let l = h.1 in let z : h.0 ≡ 0 = omega arith in subst (λ (i : ℕ). get_or (x ∷ []) i k ≡ k) z h.2

pub has_first : (x : ℕ) (xs : List ℕ) → Contains (x ∷ xs) x
has_first x xs = (0, omega arith, refl)

pub has_later : (x k : ℕ) (xs : List ℕ) → Contains xs k → Contains (x ∷ xs) k
has_later x k xs h = let l = h.1 in (suc h.0, omega arith, h.2)

pub has_cases : (x k : ℕ) (xs : List ℕ) → Contains (x ∷ xs) k → (x ≡ k) ⊎ Contains xs k
has_cases x k xs (zero, l, e) = inl e
has_cases x k xs (suc i, l, e) = inr (i, omega arith, e)

pub decide_contains : (xs : List ℕ) (k : ℕ) → Dec (Contains xs k)
decide_contains [] k = no (no_element k)
decide_contains (x ∷ xs) k = dite (ℕ_discrete x k) (λ e. yes (0, omega arith, e)) (λ n. elim (decide_contains xs k) [ yes h ↦ yes (has_later x k xs h) | no h ↦ no (λ c. ⊎_elim n h (has_cases x k xs c)) ])

abbrev at_moved : {P : Type 0} → Dec P → ℕ → ℕ → ℕ
at_moved (yes h) i j = i
at_moved (no h) i j = j

-- these numbers go to the place i, and the others stay where they were
pub moved : List ℕ → ℕ → (ℕ → ℕ) → ℕ → ℕ
moved xs i owner k = at_moved (decide_contains xs k) i (owner k)

there : {P : Type 0} (d : Dec P) (i j : ℕ) → P → at_moved d i j ≡ i
there (yes h) i j p = refl
there (no h) i j p = absurd (h p)

else_there : {P : Type 0} (d : Dec P) (i j : ℕ) → ¬ P → at_moved d i j ≡ j
else_there (yes h) i j n = absurd (n h)
else_there (no h) i j n = refl

pub moved_there : (xs : List ℕ) (i : ℕ) (owner : ℕ → ℕ) (k : ℕ) → Contains xs k → moved xs i owner k ≡ i
unfolding moved
moved_there xs i owner k h = there (decide_contains xs k) i (owner k) h

pub moved_else : (xs : List ℕ) (i : ℕ) (owner : ℕ → ℕ) (k : ℕ) → ¬ (Contains xs k) → moved xs i owner k ≡ owner k
unfolding moved
moved_else xs i owner k n = else_there (decide_contains xs k) i (owner k) n
