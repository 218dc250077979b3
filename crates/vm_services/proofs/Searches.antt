-- The first number of a range that passes a test, and the least of the numbers that some places have.
use Rattle.std.proofs.Common.{◌≡◌, ◌⊎◌, inl, inr, ℕ, zero, suc, ◌+◌, ◌-◌, ◌<◌, ◌≤◌, Bool, true, false, cond, Option, Some, None, find, min, refl, sym, ap, ◌∙◌, arith}
use Rattle.std.specs.List.{range_with_len}
use Rattle.std.proofs.lemmas.Bool.{cases_eq, cases_lt, false≢true}
use Rattle.std.proofs.lemmas.Option.{none-some, same_Some}
use Rattle.vm_services.specs.Lowest.{lower}

-- ---- from place to place
find_next : (t : ℕ → Bool) (first n pages : ℕ) → n < pages → find t (range_with_len (first + n) (pages - n)) ≡ cond (t (first + n)) (Some (first + n)) (find t (range_with_len (first + (n + 1)) (pages - (n + 1))))
find_next t first n pages less =
    (λ i. find t (range_with_len (first + n) (more i)))
    ∙ ap (λ (from : ℕ). cond (t (first + n)) (Some (first + n)) (find t (range_with_len from (pages - (n + 1))))) next
  where
    more : pages - n ≡ suc (pages - (n + 1))
    more = omega (arith, less)

    next : first + n + 1 ≡ first + (n + 1)
    next = omega arith

pub find_on : (t : ℕ → Bool) (first n pages : ℕ) → n < pages → t (first + n) ≡ false → find t (range_with_len (first + n) (pages - n)) ≡ find t (range_with_len (first + (n + 1)) (pages - (n + 1)))
find_on t first n pages less fails = find_next t first n pages less ∙ ap (λ (b : Bool). cond b (Some (first + n)) (find t (range_with_len (first + (n + 1)) (pages - (n + 1))))) fails

pub find_here : (t : ℕ → Bool) (first n pages : ℕ) → n < pages → t (first + n) ≡ true → find t (range_with_len (first + n) (pages - n)) ≡ Some (first + n)
find_here t first n pages less passes = find_next t first n pages less ∙ ap (λ (b : Bool). cond b (Some (first + n)) (find t (range_with_len (first + (n + 1)) (pages - (n + 1))))) passes

-- ---- the first that passes
record IsFirst (t : ℕ → Bool) (s n x : ℕ) : Type 0 where
  pub passes : t x ≡ true
  pub least : s ≤ x
  pub most : x < s + n
  pub before : (u : ℕ) → s ≤ u → u < x → t u ≡ false

first_found : (t : ℕ → Bool) (s n x : ℕ) → find t (range_with_len s n) ≡ Some x → IsFirst t s n x
first_found t s zero x is = absurd (none-some x is)
first_found t s (suc n) x is = go (t s) refl is (first_found t (s + 1) n x)
  where
    go : (b : Bool) → t s ≡ b → cond b (Some s) (find t (range_with_len (s + 1) n)) ≡ Some x → (find t (range_with_len (s + 1) n) ≡ Some x → IsFirst t (s + 1) n x) → IsFirst t s (suc n) x
    go true here is rest =
        let same : s ≡ x = same_Some s x is in
        record { passes = ap t (sym same) ∙ here; least = omega (arith, same); most = omega (arith, same); before = λ u least less. absurd (omega (arith, same, least, less)) }
    go false there is rest =
        let r : IsFirst t (s + 1) n x = rest is in
        let low = r.least in
        let high = r.most in
        record { passes = r.passes; least = omega (arith, low); most = omega (arith, high); before = λ u least less. by r u least less (cases_eq s u) }
      where
        by : IsFirst t (s + 1) n x → (u : ℕ) → s ≤ u → u < x → (s ≡ u) ⊎ (s ≡ u → ⊥) → t u ≡ false
        by r u least less (inl same) = ap t (sym same) ∙ there
        by r u least less (inr apart) = r.before u (omega (arith, least, apart)) less

none_found : (t : ℕ → Bool) (s n : ℕ) → find t (range_with_len s n) ≡ None → (u : ℕ) → s ≤ u → u < s + n → t u ≡ false
none_found t s zero is u least most = absurd (omega (arith, least, most))
none_found t s (suc n) is u least most = go (t s) refl is (none_found t (s + 1) n)
  where
    go : (b : Bool) → t s ≡ b → cond b (Some s) (find t (range_with_len (s + 1) n)) ≡ None → (find t (range_with_len (s + 1) n) ≡ None → (w : ℕ) → s + 1 ≤ w → w < s + 1 + n → t w ≡ false) → t u ≡ false
    go true here is rest = absurd (none-some s (sym is))
    go false there is rest = by (cases_eq s u)
      where
        by : (s ≡ u) ⊎ (s ≡ u → ⊥) → t u ≡ false
        by (inl same) = ap t (sym same) ∙ there
        by (inr apart) = rest is u (omega (arith, least, apart)) (omega (arith, most))

-- ---- the least of the numbers that the places below n have; none if no place has one
pub record IsLeastOf (f : ℕ → Option ℕ) (n : ℕ) (o : Option ℕ) : Type 0 where
  pub least : (k v : ℕ) → k < n → f k ≡ Some v → (w : ℕ) × (o ≡ Some w) × (w ≤ v)
  pub one : (w : ℕ) → o ≡ Some w → (k : ℕ) × (k < n) × (f k ≡ Some w)

module _ (f : ℕ → Option ℕ) (n : ℕ) where
  below : (k : ℕ) → k < n + 1 → (n ≡ k) ⊎ (k < n)
  below k less = by (cases_eq n k)
    where
      by : (n ≡ k) ⊎ (n ≡ k → ⊥) → (n ≡ k) ⊎ (k < n)
      by (inl same) = inl same
      by (inr apart) = inr (omega (arith, less, apart))

  next_of : (o x : Option ℕ) → f n ≡ x → IsLeastOf f n o → IsLeastOf f (n + 1) (lower o x)
  next_of None x is old = record { least = λ k v less found. by k v found (below k less); one = λ w found. (n, omega arith, is ∙ found) }
    where
      by : (k v : ℕ) → f k ≡ Some v → (n ≡ k) ⊎ (k < n) → (w : ℕ) × (x ≡ Some w) × (w ≤ v)
      by k v found (inl same) = (v, sym is ∙ (ap f same ∙ found), omega arith)
      by k v found (inr less) = let w = old.least k v less found in absurd (none-some w.0 w.1)
  next_of (Some y) None is old = record { least = λ k v less found. by k v found (below k less); one = λ w found. let k = old.one w found in let less = k.1 in (k.0, omega (arith, less), k.2) }
    where
      by : (k v : ℕ) → f k ≡ Some v → (n ≡ k) ⊎ (k < n) → (w : ℕ) × (Some y ≡ Some w) × (w ≤ v)
      by k v found (inl same) = absurd (none-some v (sym is ∙ (ap f same ∙ found)))
      by k v found (inr less) = old.least k v less found
  next_of (Some y) (Some z) is old = record { least = λ k v less found. by k v found (below k less); one = λ w found. one w found (cases_lt y z) }
    where
      by : (k v : ℕ) → f k ≡ Some v → (n ≡ k) ⊎ (k < n) → (w : ℕ) × (Some (min y z) ≡ Some w) × (w ≤ v)
      by k v found (inl same) = let z_is : z ≡ v = same_Some z v (sym is ∙ (ap f same ∙ found)) in (min y z, refl, omega (arith, z_is))
      by k v found (inr less) = let w = old.least k v less found in let y_is : y ≡ w.0 = same_Some y w.0 w.1 in let most = w.2 in (min y z, refl, omega (arith, y_is, most))

      one : (w : ℕ) → Some (min y z) ≡ Some w → (y < z) ⊎ (z ≤ y) → (k : ℕ) × (k < n + 1) × (f k ≡ Some w)
      one w found (inl less) =
          let w_is : min y z ≡ w = same_Some (min y z) w found in
          let k = old.one y refl in
          let inside = k.1 in
          (k.0, omega (arith, inside), k.2 ∙ ap Some (let same : y ≡ w = omega (arith, w_is, less) in same))
      one w found (inr most) =
          let w_is : min y z ≡ w = same_Some (min y z) w found in
          (n, omega arith, is ∙ ap Some (let same : z ≡ w = omega (arith, w_is, most) in same))

  pub least_next : (o : Option ℕ) → IsLeastOf f n o → IsLeastOf f (n + 1) (lower o (f n))
  least_next o old = next_of o (f n) refl old

-- if the places have exactly the numbers of a range that pass a test, it is the first of them
pub found_least : (t : ℕ → Bool) (s n : ℕ) (f : ℕ → Option ℕ) (m : ℕ) (o : Option ℕ) → IsLeastOf f m o
    → ((v : ℕ) → t v ≡ true → s ≤ v → v < s + n → (k : ℕ) × (k < m) × (f k ≡ Some v)) → ((k v : ℕ) → f k ≡ Some v → (t v ≡ true) × (s ≤ v) × (v < s + n)) → o ≡ find t (range_with_len s n)
found_least t s n f m o is has right = go (find t (range_with_len s n)) refl
  where
    passing : (w : ℕ) → o ≡ Some w → (t w ≡ true) × (s ≤ w) × (w < s + n)
    passing w found = let k = is.one w found in right k.0 w k.2

    go : (r : Option ℕ) → find t (range_with_len s n) ≡ r → o ≡ r
    go None none = by o refl
      where
        by : (r : Option ℕ) → o ≡ r → r ≡ None
        by None found = refl
        by (Some w) found = let w_is = passing w found in absurd (false≢true (sym (none_found t s n none w w_is.1 w_is.2) ∙ w_is.0))
    go (Some x) some = by (cases_lt w.0 x)
      where
        first : IsFirst t s n x
        first = first_found t s n x some

        place : (k : ℕ) × (k < m) × (f k ≡ Some x)
        place = has x first.passes first.least first.most

        w : (v : ℕ) × (o ≡ Some v) × (v ≤ x)
        w = is.least place.0 x place.1 place.2

        by : (w.0 < x) ⊎ (x ≤ w.0) → o ≡ Some x
        by (inl less) = let w_is = passing w.0 w.1 in absurd (false≢true (sym (first.before w.0 w_is.1 less) ∙ w_is.0))
        by (inr more) = let most = w.2 in w.1 ∙ ap Some (let same : w.0 ≡ x = omega (arith, most, more) in same)
