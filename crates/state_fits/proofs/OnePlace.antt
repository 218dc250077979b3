-- What holds at one number and at each other one, at one page of one process and at each other one; lists
-- changed at one place.
use Rattle.std.proofs.Common.{◌≡◌, ℕ, ◌<◌, Bool, true, false, List, Some, length, nat_eq, slice_get, slice_set, slice_index_or, refl, sym, ap, ◌∙◌, subst, arith, length-set}
use Rattle.std.specs.Prelude.{◌&&◌}
use Rattle.std.proofs.lemmas.Bool.{eqb-true, eqb-false, eq-eqb, and_parts, and_from, false≢true}
use Rattle.std.proofs.lemmas.Grind.{common_steps}
use Rattle.std.proofs.lemmas.List.{get_or-set_same}
use Rattle.std.proofs.lemmas.Option.{gets, slice_get-get_or, slice_get_read}
use Rattle.vm_types.specs.Same.{same_page}
use Rattle.vm_types.specs.declared.names.Page.{Page}
use Rattle.pager_rules.proofs.Basics.{pages_equal, same_from_equal}
use Rattle.pager_rules.proofs.Put.{page_apart}

pub at_each : (P : ℕ → Type 0) (f : ℕ) → P f → ((g : ℕ) → (f ≡ g → ⊥) → P g) → (g : ℕ) → P g
at_each P f here there g = go (nat_eq f g) refl
  where
    go : (b : Bool) → nat_eq f g ≡ b → P g
    go true e = subst P (eqb-true f g e) here
    go false e = there g (eqb-false f g e)

pub at_page_each : (P : ℕ → ℕ → Type 0) (p v : ℕ) → P p v → ((q w : ℕ) → (nat_eq p q && nat_eq v w) ≡ false → P q w) → (q w : ℕ) → P q w
at_page_each P p v here there q w = go (nat_eq p q && nat_eq v w) refl
  where
    go : (b : Bool) → (nat_eq p q && nat_eq v w) ≡ b → P q w
    go true e =
        let parts = and_parts (nat_eq p q) (nat_eq v w) e in
        subst (λ r. P r w) (eqb-true p q parts.0) (subst (P p) (eqb-true v w parts.1) here)
    go false e = there q w e

-- at a page and at each other one
pub at_page_or : (P : Page → Type 0) (g : Page) → P g → ((h : Page) → same_page g h ≡ false → P h) → (h : Page) → P h
at_page_or P g here there h = go (same_page g h) refl
  where
    go : (b : Bool) → same_page g h ≡ b → P h
    go true e = subst P (pages_equal g h e) here
    go false e = there h e

pub apart_back : (g h : Page) → same_page g h ≡ false → same_page h g ≡ false
apart_back g h apart = page_apart h g (λ same. false≢true (sym apart ∙ same_from_equal g h (sym same)))

pub not_same : (p q v w : ℕ) → (nat_eq p q && nat_eq v w) ≡ false → (p ≡ q) × (v ≡ w) → ⊥
not_same p q v w e same = false≢true (sym e ∙ and_from _ _ (eq-eqb p q same.0) (eq-eqb v w same.1))

pub get_set_same : {X : Type 0} (xs : List X) (i : ℕ) (x : X) → i < length xs → slice_get (slice_set xs i x) i ≡ Some x
get_set_same xs i x below = slice_get-get_or (slice_set xs i x) i x (subst (λ n. i < n) (sym (length-set xs i x)) below) ∙ ap Some (get_or-set_same xs i x x below)

pub get_set_other : {X : Type 0} (xs : List X) (i j : ℕ) (x : X) → (i ≡ j → ⊥) → slice_get (slice_set xs i x) j ≡ slice_get xs j
get_set_other xs i j x apart = grind (arith, common_steps, gets)

-- a value that was read by index is the one that is known to be there
pub read_is : {X : Type 0} (xs : List X) (i : ℕ) (x y : X) → x ≡ slice_index_or xs i x → slice_get xs i ≡ Some y → i < length xs → x ≡ y
read_is xs i x y read known below = let same : Some x ≡ Some y = sym (slice_get_read xs (length xs) i x refl below read) ∙ known in let is : x ≡ y = cc in is

-- a list with a value for each number below its length, after one of them has changed
pub each_set : {X : Type 0} (view view' : ℕ → X) (n : ℕ) (xs : List X) (p : ℕ) (x : X)
    → length xs ≡ n → ((q : ℕ) → q < n → slice_get xs q ≡ Some (view q)) → p < n → x ≡ view' p → ((q : ℕ) → (p ≡ q → ⊥) → view' q ≡ view q)
    → (q : ℕ) → q < n → slice_get (slice_set xs p x) q ≡ Some (view' q)
each_set view view' n xs p x count fit below here there =
    at_each (λ q. q < n → slice_get (slice_set xs p x) q ≡ Some (view' q)) p
    (λ _. get_set_same xs p x (omega (arith, count, below)) ∙ ap Some here)
    (λ q apart less. get_set_other xs p q x apart ∙ (fit q less ∙ ap Some (sym (there q apart))))
