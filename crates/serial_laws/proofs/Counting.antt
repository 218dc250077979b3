-- Pairs counted from either side.
use Rattle.std.proofs.Common.{◌≡◌, ◌⊎◌, inl, inr, ℕ, zero, suc, ◌+◌, ◌<◌, ◌≤◌, Bool, true, false, cond, List, [], ◌∷◌, length, count_by, nat_eq, refl, sym, arith}
use Rattle.std.specs.List.{AllByRecursion, range_with_len, sum_by}
use Rattle.std.proofs.lemmas.Bool.{cases_eq, eq-eqb, ne_eqb}
use Rattle.std.proofs.lemmas.List.Sums.{sum_by-cons}
use Rattle.pager_rules.proofs.Basics.{count_cons, count_cons_no, count_cons_yes}

pub sum_zeros : {X : Type 0} (xs : List X) → sum_by (λ (x : X). 0) xs ≡ 0
sum_zeros [] = refl
sum_zeros {X} (x ∷ xs) = omega (arith, sum_by-cons (λ (y : X). 0) x xs, sum_zeros xs)

pub sum_both : {X : Type 0} (f g : X → ℕ) (xs : List X) → sum_by (λ (x : X). f x + g x) xs ≡ sum_by f xs + sum_by g xs
sum_both f g [] = refl
sum_both {X} f g (x ∷ xs) = omega (arith, sum_by-cons (λ (y : X). f y + g y) x xs, sum_by-cons f x xs, sum_by-cons g x xs, sum_both f g xs)

-- where each is no more, the sum is no more
pub sum_less : {X : Type 0} (f g : X → ℕ) (xs : List X) → AllByRecursion (λ (x : X). f x ≤ g x) xs → sum_by f xs ≤ sum_by g xs
sum_less f g [] each = omega arith
sum_less f g (x ∷ xs) each = let first = each.0 in omega (arith, sum_by-cons f x xs, sum_by-cons g x xs, sum_less f g xs each.1, first)

pub sum_same : {X : Type 0} (f g : X → ℕ) (xs : List X) → AllByRecursion (λ (x : X). f x ≡ g x) xs → sum_by f xs ≡ sum_by g xs
sum_same f g [] each = refl
sum_same f g (x ∷ xs) each = let first = each.0 in omega (arith, sum_by-cons f x xs, sum_by-cons g x xs, sum_same f g xs each.1, first)

pub sum_ones : {X : Type 0} (xs : List X) → sum_by (λ (x : X). 1) xs ≡ length xs
sum_ones [] = refl
sum_ones {X} (x ∷ xs) = omega (arith, sum_by-cons (λ (y : X). 1) x xs, sum_ones xs)

pub each_is : {X : Type 0} (P : X → Type 0) → ((x : X) → P x) → (xs : List X) → AllByRecursion P xs
each_is P all [] = tt
each_is P all (x ∷ xs) = (all x, each_is P all xs)

-- the pairs of two lists that pass, counted by the first and by the second of each
pub pairs_same : {X Y : Type 0} (pair : X → Y → Bool) (xs : List X) (ys : List Y) → sum_by (λ (x : X). count_by (pair x) ys) xs ≡ sum_by (λ (y : Y). count_by (λ (x : X). pair x y) xs) ys
pairs_same {X} {Y} pair [] ys = sym (sum_zeros ys)
pairs_same {X} {Y} pair (x ∷ xs) ys =
    let one = sum_by-cons (λ (z : X). count_by (pair z) ys) x xs in
    let more = sum_same (λ (y : Y). count_by (λ (z : X). pair z y) (x ∷ xs)) (λ (y : Y). cond (pair x y) 1 0 + count_by (λ (z : X). pair z y) xs) ys (each_is _ (λ y. count_cons (λ (z : X). pair z y) x xs) ys) in
    let both = sum_both (λ (y : Y). cond (pair x y) 1 0) (λ (y : Y). count_by (λ (z : X). pair z y) xs) ys in
    let first : count_by (pair x) ys ≡ sum_by (λ (y : Y). cond (pair x y) 1 0) ys = refl in
    omega (arith, one, more, both, first, pairs_same pair xs ys)

-- ---- a number stands in a range once at most
pub none_below : (b a n : ℕ) → b < a → count_by (nat_eq b) (range_with_len a n) ≡ 0
none_below b a zero less = refl
none_below b a (suc n) less = omega (arith, count_cons_no (nat_eq b) a (range_with_len (a + 1) n) (ne_eqb b a (λ same. omega (arith, same, less))), none_below b (a + 1) n (omega (arith, less)))

pub once_in_range : (b a n : ℕ) → count_by (nat_eq b) (range_with_len a n) ≤ 1
once_in_range b a zero = omega arith
once_in_range b a (suc n) = go (cases_eq b a) (once_in_range b (a + 1) n)
  where
    go : (b ≡ a) ⊎ (b ≡ a → ⊥) → count_by (nat_eq b) (range_with_len (a + 1) n) ≤ 1 → count_by (nat_eq b) (range_with_len a (suc n)) ≤ 1
    go (inl same) rest =
        let none = none_below b (a + 1) n (omega (arith, same)) in
        omega (arith, none, count_cons (nat_eq b) a (range_with_len (a + 1) n), at_most (nat_eq b a))
      where
        at_most : (c : Bool) → cond {A = ℕ} c 1 0 ≤ 1
        at_most true = omega arith
        at_most false = omega arith
    go (inr apart) rest = omega (arith, rest, count_cons_no (nat_eq b) a (range_with_len (a + 1) n) (ne_eqb b a apart))

pub range_holds : (b a n : ℕ) → a ≤ b → b < a + n → 1 ≤ count_by (nat_eq b) (range_with_len a n)
range_holds b a zero low high = absurd (omega arith)
range_holds b a (suc n) low high = go (cases_eq b a) (range_holds b (a + 1) n)
  where
    go : (b ≡ a) ⊎ (b ≡ a → ⊥) → (a + 1 ≤ b → b < a + 1 + n → 1 ≤ count_by (nat_eq b) (range_with_len (a + 1) n)) → 1 ≤ count_by (nat_eq b) (range_with_len a (suc n))
    go (inl same) rest = omega (arith, count_cons_yes (nat_eq b) a (range_with_len (a + 1) n) (eq-eqb b a same))
    go (inr apart) rest = let later = rest (omega arith) (omega arith) in omega (arith, later, count_cons (nat_eq b) a (range_with_len (a + 1) n))
