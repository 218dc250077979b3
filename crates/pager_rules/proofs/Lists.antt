-- Counts over lists with an item more or less, and what a search finds.
use Rattle.std.proofs.Common.{◌≡◌, ℕ, zero, suc, ◌+◌, ◌<◌, ◌≤◌, Bool, true, false, cond, not, List, [], ◌∷◌, ◌++◌, Option, Some, None, filter, find, count_by, slice_get, slice_set, slice_index_or, refl, sym, ap, ◌∙◌, subst, arith}
use Rattle.std.specs.List.{AllByRecursion}
use Rattle.std.proofs.lemmas.List.Sums.{sum_by_push, sum_by-set}
use Rattle.std.proofs.lemmas.Option.{get_or_from_slice_get, slice_get_within}
use Rattle.pager_model.specs.Lookups.{passes, is}
use Rattle.pager_rules.proofs.Basics.{count_cons, count_cons_no, count_cons_yes, count_from_no_find}

pub count_push : {X : Type 0} (p : X → Bool) (xs : List X) (x : X) → count_by p (xs ++ x ∷ []) ≡ count_by p xs + cond (p x) 1 0
count_push {X} p xs x = sum_by_push (λ (y : X). cond (p y) 1 0) xs x

-- the list without what passes a test
pub filter_all : {X : Type 0} (q : X → Bool) (xs : List X) → count_by q xs ≡ 0 → filter (λ (y : X). not (q y)) xs ≡ xs
filter_all q [] none = refl
filter_all {X} q (x ∷ xs) none = go (q x) refl (filter_all q xs)
  where
    go : (b : Bool) → q x ≡ b → (count_by q xs ≡ 0 → filter (λ (y : X). not (q y)) xs ≡ xs) → cond (not b) (x ∷ filter (λ (y : X). not (q y)) xs) (filter (λ (y : X). not (q y)) xs) ≡ x ∷ xs
    go true is rest = let more = count_cons_yes q x xs is in absurd (omega arith)
    go false is rest = let same = count_cons_no q x xs is in ap (λ (ys : List X). x ∷ ys) (rest (sym same ∙ none))

-- where one item passes q, the count by p loses what that item counts
pub count_removed : {X : Type 0} (p q : X → Bool) (xs : List X) (x : X) → find q xs ≡ Some x → count_by q xs ≤ 1
    → count_by p xs ≡ cond (p x) 1 0 + count_by p (filter (λ (y : X). not (q y)) xs)
count_removed p q [] x found once = absurd (cc)
count_removed {X} p q (y ∷ xs) x found once = go (q y) refl found (count_removed p q xs x)
  where
    kept : List X
    kept = filter (λ (z : X). not (q z)) xs

    go : (b : Bool) → q y ≡ b → cond b (Some y) (find q xs) ≡ Some x → (find q xs ≡ Some x → count_by q xs ≤ 1 → count_by p xs ≡ cond (p x) 1 0 + count_by p kept)
        → count_by p (y ∷ xs) ≡ cond (p x) 1 0 + count_by p (cond (not b) (y ∷ kept) kept)
    go true is here rest =
        let same : y ≡ x = cc in
        let more = count_cons_yes q y xs is in
        let none : count_by q xs ≡ 0 = omega arith in
        let whole = filter_all q xs none in
        count_cons p y xs ∙ (ap (λ (z : X). cond (p z) 1 0 + count_by p xs) same ∙ ap (λ (zs : List X). cond (p x) 1 0 + count_by p zs) (sym whole))
    go false is there rest =
        let fewer = count_cons_no q y xs is in
        let step = rest there (omega arith) in
        let left = count_cons p y xs in
        let right = count_cons p y kept in
        omega arith

pub count_filter_le : {X : Type 0} (p q : X → Bool) (xs : List X) → count_by p (filter q xs) ≤ count_by p xs
count_filter_le p q [] = omega arith
count_filter_le {X} p q (x ∷ xs) = go (q x) (count_filter_le p q xs)
  where
    go : (b : Bool) → count_by p (filter q xs) ≤ count_by p xs → count_by p (cond b (x ∷ filter q xs) (filter q xs)) ≤ count_by p (x ∷ xs)
    go true rest = let left = count_cons p x (filter q xs) in let right = count_cons p x xs in omega arith
    go false rest = let right = count_cons p x xs in omega arith

-- what all items meet
pub all_filter : {X : Type 0} (P : X → Type 0) (q : X → Bool) (xs : List X) → AllByRecursion P xs → AllByRecursion P (filter q xs)
all_filter P q [] all = tt
all_filter {X} P q (x ∷ xs) all = go (q x) (all_filter P q xs all.1)
  where
    go : (b : Bool) → AllByRecursion P (filter q xs) → AllByRecursion P (cond b (x ∷ filter q xs) (filter q xs))
    go true rest = (all.0, rest)
    go false rest = rest

pub all_found : {X : Type 0} (P : X → Type 0) (q : X → Bool) (xs : List X) (x : X) → AllByRecursion P xs → find q xs ≡ Some x → P x
all_found P q [] x all found = absurd (cc)
all_found {X} P q (y ∷ xs) x all found = go (q y) found (all_found P q xs x all.1)
  where
    go : (b : Bool) → cond b (Some y) (find q xs) ≡ Some x → (find q xs ≡ Some x → P x) → P x
    go true here rest = let same : y ≡ x = cc in subst P same all.0
    go false there rest = rest there

pub found_passes : {X : Type 0} (q : X → Bool) (xs : List X) (x : X) → find q xs ≡ Some x → q x ≡ true
found_passes q [] x found = absurd (cc)
found_passes {X} q (y ∷ xs) x found = go (q y) refl found (found_passes q xs x)
  where
    go : (b : Bool) → q y ≡ b → cond b (Some y) (find q xs) ≡ Some x → (find q xs ≡ Some x → q x ≡ true) → q x ≡ true
    go true is here rest = let same : y ≡ x = cc in subst (λ (z : X). q z ≡ true) same is
    go false is there rest = rest there

-- a step on each item, which may use that the item counts by p where it passes p
pub all_step : {X : Type 0} (P Q : X → Type 0) (xs : List X) → ((x : X) → ((p : X → Bool) → p x ≡ true → 0 < count_by p xs) → P x → Q x) → AllByRecursion P xs → AllByRecursion Q xs
all_step P Q [] step all = tt
all_step {X} P Q (x ∷ xs) step all = (
  step x (λ p is. let more = count_cons_yes p x xs is in omega arith) all.0,
  all_step P Q xs (λ y counts. step y (λ p is. let more = count_cons p x xs in let rest = counts p is in omega arith)) all.1,
)

-- one that counts is found
pub found_one : {X : Type 0} (p : X → Bool) (xs : List X) → 0 < count_by p xs → (x : X) × (find p xs ≡ Some x)
found_one {X} p xs some = go (find p xs) refl
  where
    go : (o : Option X) → find p xs ≡ o → (x : X) × (find p xs ≡ Some x)
    go None none = let zero = count_from_no_find p xs none in absurd (omega arith)
    go (Some x) is = (x, is)

pub count_found : {X : Type 0} (p q : X → Bool) (xs : List X) (x : X) → find q xs ≡ Some x → p x ≡ true → 0 < count_by p xs
count_found p q [] x found passes = absurd (cc)
count_found {X} p q (y ∷ xs) x found passes = go (q y) found (λ later. count_found p q xs x later passes)
  where
    go : (b : Bool) → cond b (Some y) (find q xs) ≡ Some x → (find q xs ≡ Some x → 0 < count_by p xs) → 0 < count_by p (y ∷ xs)
    go true here rest =
        let same : x ≡ y = cc in
        let step = count_cons_yes p y xs (subst (λ (z : X). p z ≡ true) same passes) in
        omega arith
    go false there rest = let step = count_cons p y xs in let more = rest there in omega arith

-- a write to a slot
pub count_written : {X : Type 0} (p : X → Bool) (xs : List X) (i : ℕ) (old new : X) → slice_get xs i ≡ Some old → count_by p (slice_set xs i new) + cond (p old) 1 0 ≡ count_by p xs + cond (p new) 1 0
count_written {X} p xs i old new e =
    let whole = sum_by-set (λ (y : X). cond (p y) 1 0) xs i new old (slice_get_within xs i old e) in
    let there : slice_index_or xs i old ≡ old = get_or_from_slice_get xs i old old e in
    let counted : cond {A = ℕ} (p (slice_index_or xs i old)) 1 0 ≡ cond {A = ℕ} (p old) 1 0 = ap (λ (y : X). cond {A = ℕ} (p y) 1 0) there in
    omega arith

pub count_removed_yes : {X : Type 0} (p q : X → Bool) (xs : List X) (x : X) → find q xs ≡ Some x → count_by q xs ≤ 1 → p x ≡ true
    → count_by p xs ≡ 1 + count_by p (filter (λ (y : X). not (q y)) xs)
count_removed_yes {X} p q xs x found once is = count_removed p q xs x found once ∙ ap (λ (b : Bool). cond b 1 0 + count_by p (filter (λ (y : X). not (q y)) xs)) is

pub count_removed_no : {X : Type 0} (p q : X → Bool) (xs : List X) (x : X) → find q xs ≡ Some x → count_by q xs ≤ 1 → p x ≡ false
    → count_by p (filter (λ (y : X). not (q y)) xs) ≡ count_by p xs
count_removed_no {X} p q xs x found once is =
    let whole = count_removed p q xs x found once ∙ ap (λ (b : Bool). cond b 1 0 + count_by p (filter (λ (y : X). not (q y)) xs)) is in
    omega arith

-- another slot is as it was
pub slot_unchanged : {X : Type 0} (xs : List X) (i j : ℕ) (new : X) → (i ≡ j → ⊥) → slice_get (slice_set xs i new) j ≡ slice_get xs j
slot_unchanged [] i j new apart = refl
slot_unchanged (x ∷ xs) zero zero new apart = absurd (apart refl)
slot_unchanged (x ∷ xs) zero (suc j) new apart = refl
slot_unchanged (x ∷ xs) (suc i) zero new apart = refl
slot_unchanged (x ∷ xs) (suc i) (suc j) new apart = slot_unchanged xs i j new (λ same. apart (ap suc same))
