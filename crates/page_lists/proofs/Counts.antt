-- How often a frame stands in a list, after each change of the list, and what that says of its length.
use Rattle.std.proofs.Common.{◌≡◌, ℕ, ◌+◌, ◌≤◌, ◌<◌, zero, suc, true, false, cond, eqb, List, [], ◌∷◌, ◌++◌, Some, length, refl, sym, ◌∙◌, ap, ⊎_elim, arith}
use Rattle.std.specs.List.{IsDistinct, AllByRecursion, list_any, slice_get}
use Rattle.std.proofs.lemmas.Bool.{cases_eq, eq-eqb, ne_eqb, eqb-true, or_cases}
use Rattle.std.proofs.lemmas.List.Sums.{sum_by-cons, sum_by-append, sum_by_push}
use Rattle.std.proofs.lemmas.Map.Steps.{length-le_from_distinct_below}
use Rattle.page_lists.specs.Lists.{count_of, without}

-- the frame at the head counts once
pub count_of-cons : (x : ℕ) (xs : List ℕ) (f : ℕ) → count_of (x ∷ xs) f ≡ cond (eqb x f) 1 0 + count_of xs f
count_of-cons x xs f = sum_by-cons (λ other. cond (eqb other f) 1 0) x xs

pub count_of-append : (xs ys : List ℕ) (f : ℕ) → count_of (xs ++ ys) f ≡ count_of xs f + count_of ys f
count_of-append xs ys f = sum_by-append (λ other. cond (eqb other f) 1 0) xs ys

pub count_of-push : (xs : List ℕ) (x f : ℕ) → count_of (xs ++ x ∷ []) f ≡ count_of xs f + cond (eqb x f) 1 0
count_of-push xs x f = sum_by_push (λ other. cond (eqb other f) 1 0) xs x

pub count_of-same : (x : ℕ) (xs : List ℕ) (f : ℕ) → x ≡ f → count_of (x ∷ xs) f ≡ 1 + count_of xs f
count_of-same x xs f same = count_of-cons x xs f ∙ rw (eq-eqb x f same) refl

counted_at : (x : ℕ) (xs : List ℕ) (f : ℕ) → x ≡ f → 0 < count_of (x ∷ xs) f
counted_at x xs f same = omega (arith, count_of-same x xs f same)

-- the list without a frame has it no more, and each other frame as often
pub count_of-without : (xs : List ℕ) (f g : ℕ) → count_of (without xs f) g ≡ cond (eqb f g) 0 (count_of xs g)
count_of-without [] f g = grind arith
count_of-without (x ∷ xs) f g =
    let rest = count_of-without xs f g in
    let cons = count_of-cons x xs g in
    let kept = count_of-cons x (without xs f) g in
    grind (arith, cases_eq x f, cases_eq f g, cases_eq x g, eqb-true, eq-eqb, ne_eqb)

-- a frame that isn't there leaves the list as it is
pub without-absent : (xs : List ℕ) (f : ℕ) → count_of xs f ≡ 0 → without xs f ≡ xs
without-absent [] f h = refl
without-absent (x ∷ xs) f h =
    let rest : without xs f ≡ xs = without-absent xs f (omega (arith, count_of-cons x xs f)) in
    grind (arith, count_of-cons x xs f, rest)

-- lists in which no frame stands twice have no two equal items
absent : (x : ℕ) (xs : List ℕ) → count_of xs x ≡ 0 → AllByRecursion (λ y. eqb x y ≡ false) xs
absent x [] h = tt
absent x (y ∷ ys) h = (grind (arith, count_of-cons y ys x, cases_eq x y, eqb-true, eq-eqb, ne_eqb), absent x ys (omega (arith, count_of-cons y ys x)))

IsDistinct-once : (xs : List ℕ) → ((f : ℕ) → count_of xs f ≤ 1) → IsDistinct eqb xs
unfolding IsDistinct
IsDistinct-once [] once = tt
IsDistinct-once (x ∷ xs) once = (
  absent x xs (omega (arith, count_of-same x xs x refl, once x)),
  IsDistinct-once xs (λ f. omega (arith, count_of-cons x xs f, once f)),
)

counted : (q : ℕ) (xs : List ℕ) → list_any (eqb q) xs ≡ true → 0 < count_of xs q
counted q [] h = cc
counted q (x ∷ xs) h = ⊎_elim
    (λ here. counted_at x xs q (sym (eqb-true q x here)))
    (λ there. omega (arith, counted q xs there, count_of-cons x xs q))
    (or_cases _ _ h)

-- a list in which no frame stands twice, and none from n on, has at most n
pub length-once : (xs : List ℕ) (n : ℕ) → ((f : ℕ) → n ≤ f → count_of xs f ≡ 0) → ((f : ℕ) → count_of xs f ≤ 1) → length xs ≤ n
length-once xs n below once = length-le_from_distinct_below xs n (IsDistinct-once xs once) (λ q there. let here = counted q xs there in grind (arith, below q))

-- a frame stands in one place of such a list
pub found : (xs : List ℕ) (f k : ℕ) → slice_get xs k ≡ Some f → 0 < count_of xs f
found [] f k h = cc
found (x ∷ xs) f zero h = counted_at x xs f cc
found (x ∷ xs) f (suc k) h = omega (arith, found xs f k h, count_of-cons x xs f)

twice : {P : Type 0} (x : ℕ) (xs : List ℕ) (f k : ℕ) → count_of (x ∷ xs) f ≤ 1 → slice_get (x ∷ xs) 0 ≡ Some f → slice_get xs k ≡ Some f → P
twice x xs f k once a b = absurd (omega (arith, found xs f k b, count_of-same x xs f cc))

pub same_place : (xs : List ℕ) (f j k : ℕ) → count_of xs f ≤ 1 → slice_get xs j ≡ Some f → slice_get xs k ≡ Some f → j ≡ k
same_place [] f j k once a b = cc
same_place (x ∷ xs) f zero zero once a b = refl
same_place (x ∷ xs) f zero (suc k) once a b = twice x xs f k once a b
same_place (x ∷ xs) f (suc j) zero once a b = twice x xs f j once b a
same_place (x ∷ xs) f (suc j) (suc k) once a b = ap suc (same_place xs f j k (omega (arith, count_of-cons x xs f)) a b)
