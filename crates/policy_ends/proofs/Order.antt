-- Lower by the first number that differs, and sums and counts that are lower.
use Rattle.std.proofs.Common.{◌≡◌, ◌⊎◌, inl, inr, ℕ, ◌<◌, ◌≤◌, Bool, true, false, cond, List, [], ◌∷◌, Some, count_by, find, refl, sym, ap, ◌∙◌, arith}
use Rattle.std.specs.List.{AllByRecursion, sum_by}
use Rattle.std.proofs.lemmas.Bool.{cases_lt, false≢true}
use Rattle.std.proofs.lemmas.List.Sums.{sum_by-cons}
use Rattle.std.proofs.lemmas.Option.{none-some, same_Some}
use Rattle.pager_rules.proofs.Basics.{count_cons, count_cons_no, count_cons_yes}
use Rattle.serial_laws.proofs.Counting.{sum_less}
use Rattle.policy_ends.specs.Rank.{IsLower}

-- an earlier number doesn't rise
pub down : (x y : ℕ) (xs ys : List ℕ) → x ≤ y → IsLower xs ys → IsLower (x ∷ xs) (y ∷ ys)
down x y xs ys most rest = by (cases_lt x y)
  where
    by : (x < y) ⊎ (y ≤ x) → IsLower (x ∷ xs) (y ∷ ys)
    by (inl less) = inl less
    by (inr least) = inr (omega (arith, most, least), rest)

pub here : (x y : ℕ) (xs ys : List ℕ) → x < y → IsLower (x ∷ xs) (y ∷ ys)
here x y xs ys less = inl less

-- ---- sums
pub sum_lower : {X : Type 0} (f g : X → ℕ) (t : X → Bool) (xs : List X) → AllByRecursion (λ (x : X). f x ≤ g x) xs → ((x : X) → t x ≡ true → f x < g x) → 0 < count_by t xs → sum_by f xs < sum_by g xs
sum_lower f g t [] each less some = absurd (omega (arith, some))
sum_lower {X} f g t (x ∷ xs) each less some = by (t x) refl (λ later. sum_lower f g t xs each.1 less later)
  where
    by : (b : Bool) → t x ≡ b → (0 < count_by t xs → sum_by f xs < sum_by g xs) → sum_by f (x ∷ xs) < sum_by g (x ∷ xs)
    by true is rest = let first = less x is in omega (arith, first, sum_by-cons f x xs, sum_by-cons g x xs, sum_less f g xs each.1)
    by false is rest =
        let first = each.0 in
        let later = rest (omega (arith, some, count_cons_no t x xs is)) in
        omega (arith, first, later, sum_by-cons f x xs, sum_by-cons g x xs)

-- ---- counts
not_both : (b : Bool) → b ≡ false → b ≡ true → ⊥
not_both false fails passes = false≢true passes
not_both true fails passes = false≢true (sym fails)

pub fewer_pass : {X : Type 0} (t u : X → Bool) (xs : List X) → AllByRecursion (λ (x : X). t x ≡ true → u x ≡ true) xs → count_by t xs ≤ count_by u xs
fewer_pass t u [] each = omega arith
fewer_pass {X} t u (x ∷ xs) each = by (t x) refl (u x) refl (fewer_pass t u xs each.1)
  where
    by : (b : Bool) → t x ≡ b → (c : Bool) → u x ≡ c → count_by t xs ≤ count_by u xs → count_by t (x ∷ xs) ≤ count_by u (x ∷ xs)
    by false fails c is rest = omega (arith, rest, count_cons_no t x xs fails, count_cons u x xs)
    by true passes true is rest = omega (arith, rest, count_cons_yes t x xs passes, count_cons_yes u x xs is)
    by true passes false is rest = absurd (not_both (u x) is (each.0 passes))

pub less_pass : {X : Type 0} (t u : X → Bool) (xs : List X) → AllByRecursion (λ (x : X). t x ≡ true → u x ≡ true) xs → (q : X → Bool) (y : X) → find q xs ≡ Some y → t y ≡ false → u y ≡ true
    → count_by t xs < count_by u xs
less_pass t u [] each q y found fails passes = absurd (none-some y found)
less_pass {X} t u (x ∷ xs) each q y found fails passes = by (q x) found (λ is. less_pass t u xs each.1 q y is fails passes)
  where
    here : t x ≡ false → u x ≡ true → count_by t (x ∷ xs) < count_by u (x ∷ xs)
    here fails_x passes_x = omega (arith, fewer_pass t u xs each.1, count_cons_no t x xs fails_x, count_cons_yes u x xs passes_x)

    step : (b c : Bool) → t x ≡ b → u x ≡ c → count_by t xs < count_by u xs → count_by t (x ∷ xs) < count_by u (x ∷ xs)
    step false c fails_x is rest = omega (arith, rest, count_cons_no t x xs fails_x, count_cons u x xs)
    step true true passes_x is rest = omega (arith, rest, count_cons_yes t x xs passes_x, count_cons_yes u x xs is)
    step true false passes_x is rest = absurd (not_both (u x) is (each.0 passes_x))

    by : (b : Bool) → cond b (Some x) (find q xs) ≡ Some y → (find q xs ≡ Some y → count_by t xs < count_by u xs) → count_by t (x ∷ xs) < count_by u (x ∷ xs)
    by true is rest = let same = same_Some x y is in here (ap t same ∙ fails) (ap u same ∙ passes)
    by false is rest = step (t x) (u x) refl refl (rest is)
