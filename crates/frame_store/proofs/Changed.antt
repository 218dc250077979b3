-- Reads of lists that were changed.
use Rattle.std.proofs.Common.{◌≡◌, ℕ, zero, suc, ◌+◌, ◌-◌, ◌<◌, Bool, true, List, [], ◌∷◌, ◌++◌, Option, Some, None, length, take, slice_get, slice_set, slice_index_or, refl, inl, inr, sym, ap, ◌∙◌, subst, arith, length-set}
use Rattle.std.specs.Prelude.{◌⊎◌, is_some, if◌then◌else◌, count_by, swap, swap_remove}
use Rattle.std.proofs.lemmas.Bool.{cases_eq, cases_order}
use Rattle.std.proofs.lemmas.List.{length-take-le}
use Rattle.std.proofs.lemmas.List.Edits.{swap_is}
use Rattle.std.proofs.lemmas.List.Sums.{count_by-le-length, sum_by-cons, sum_by-set}
use Rattle.std.proofs.lemmas.Option.{none-some, same_Some, slice_get_within, get_or_from_slice_get}
use Rattle.frame_store.proofs.Rows.{get_right}
use Rattle.frame_store.proofs.StoreKept.{get_set_other, get_set_same}

pub below_last : (j last : ℕ) → j < suc last → (j ≡ last → ⊥) → j < last
below_last j last below differ = go (cases_order j last)
  where
    go : (j ≡ last) ⊎ ((j < last) ⊎ (last < j)) → j < last
    go (inl same) = absurd (differ same)
    go (inr (inl less)) = less
    go (inr (inr more)) = omega (arith, below, more)

module _ {X : Type 0} where
  -- what is in a place of a list
  pub got : (xs : List X) (i : ℕ) → i < length xs → (x : X) × (slice_get xs i ≡ Some x)
  got [] i below = absurd (omega (arith, below))
  got (x ∷ xs) zero below = (x, refl)
  got (x ∷ xs) (suc i) below = got xs i (omega (arith, below))

  pub ext_get : (xs ys : List X) → ((i : ℕ) → slice_get xs i ≡ slice_get ys i) → xs ≡ ys
  ext_get [] [] same = refl
  ext_get [] (y ∷ ys) same = absurd (none-some y (same 0))
  ext_get (x ∷ xs) [] same = absurd (none-some x (sym (same 0)))
  ext_get (x ∷ xs) (y ∷ ys) same = λ i. same_Some x y (same 0) i ∷ ext_get xs ys (λ k. same (suc k)) i

  -- ---- `take`
  get_take : (n j : ℕ) (xs : List X) → j < n → slice_get (take n xs) j ≡ slice_get xs j
  get_take zero j xs below = absurd (omega (arith, below))
  get_take (suc n) j [] below = refl
  get_take (suc n) zero (x ∷ xs) below = refl
  get_take (suc n) (suc j) (x ∷ xs) below = get_take n j xs (omega (arith, below))

  -- ---- `swap_remove`
  module _ (xs : List X) (k last : ℕ) (d x : X) (long : length xs ≡ suc last) (within : k < length xs) (end : slice_get xs last ≡ Some x) where
    removed : swap_remove xs k d ≡ take last (slice_set xs k x)
    removed =
        let size : length xs - 1 ≡ last = omega (arith, long) in
        let read : slice_index_or xs (length xs - 1) d ≡ x = ap (λ n. slice_index_or xs n d) size ∙ get_or_from_slice_get xs last x d end in
        λ i. take (size i) (slice_set xs k (read i))

    pub removed_long : length (swap_remove xs k d) ≡ last
    removed_long = ap length removed ∙ length-take-le last (slice_set xs k x) (let size = length-set xs k x in omega (arith, size, long))

    pub removed_gap : k < last → slice_get (swap_remove xs k d) k ≡ Some x
    removed_gap below = ap (λ ys. slice_get ys k) removed ∙ (get_take last k (slice_set xs k x) below ∙ get_set_same xs k x within)

    pub removed_other : (j : ℕ) → j < last → (j ≡ k → ⊥) → slice_get (swap_remove xs k d) j ≡ slice_get xs j
    removed_other j below differ = ap (λ ys. slice_get ys j) removed ∙ (get_take last j (slice_set xs k x) below ∙ get_set_other xs k j x (λ same. differ (sym same)))

  -- ---- `push`
  pub get_pushed : (xs : List X) (x : X) → slice_get (xs ++ x ∷ []) (length xs) ≡ Some x
  get_pushed xs x = subst (λ n. slice_get (xs ++ x ∷ []) n ≡ Some x) (omega arith) (get_right xs (x ∷ []) 0 x refl)

  -- ---- `swap`
  module _ (xs : List X) (i j : ℕ) (x y : X) (at_i : slice_get xs i ≡ Some x) (at_j : slice_get xs j ≡ Some y) where
    swapped : swap xs i j ≡ slice_set (slice_set xs i y) j x
    swapped =
        let first = get_or_from_slice_get xs i x x at_i in
        let second = get_or_from_slice_get xs j y x at_j in
        sym (swap_is xs i j x (slice_get_within xs i x at_i) (slice_get_within xs j y at_j)) ∙ (λ t. slice_set (slice_set xs i (second t)) j (first t))

    pub swapped_second : slice_get (swap xs i j) j ≡ Some x
    swapped_second = ap (λ ys. slice_get ys j) swapped ∙ get_set_same (slice_set xs i y) j x (subst (λ n. j < n) (sym (length-set xs i y)) (slice_get_within xs j y at_j))

    pub swapped_first : slice_get (swap xs i j) i ≡ Some y
    swapped_first = go (cases_eq j i)
      where
        go : (j ≡ i) ⊎ (j ≡ i → ⊥) → slice_get (swap xs i j) i ≡ Some y
        go (inl same) = subst (λ n. slice_get (swap xs i j) n ≡ Some x) same swapped_second ∙ (sym at_i ∙ (ap (slice_get xs) (sym same) ∙ at_j))
        go (inr differ) = ap (λ ys. slice_get ys i) swapped ∙ (get_set_other (slice_set xs i y) j i x differ ∙ get_set_same xs i y (slice_get_within xs i x at_i))

    pub swapped_other : (m : ℕ) → (m ≡ i → ⊥) → (m ≡ j → ⊥) → slice_get (swap xs i j) m ≡ slice_get xs m
    swapped_other m from_i from_j =
        ap (λ ys. slice_get ys m) swapped ∙ (get_set_other (slice_set xs i y) j m x (λ same. from_j (sym same)) ∙ get_set_other xs i m y (λ same. from_i (sym same)))

-- ---- how many places are noted
abbrev one_if_some : Option ℕ → ℕ
one_if_some o = if is_some o then 1 else 0

pub all_noted : (places : List (Option ℕ)) → ((n : ℕ) → n < length places → (k : ℕ) × (slice_get places n ≡ Some (Some k))) → count_by is_some places ≡ length places
all_noted [] all = refl
all_noted (place ∷ places) all =
    let rest = all_noted places (λ n below. all (suc n) (omega (arith, below))) in
    let first : one_if_some place ≡ 1 = let found = all 0 (omega arith) in ap one_if_some (same_Some place (Some found.0) found.1) in
    let total = sum_by-cons one_if_some place places in
    omega (arith, rest, first, total)

module _ (places : List (Option ℕ)) (n : ℕ) (old : Option ℕ) (at : slice_get places n ≡ Some old) where
  within : n < length places
  within = slice_get_within places n old at

  set_count : (new : Option ℕ) → count_by is_some (slice_set places n new) + one_if_some old ≡ count_by is_some places + one_if_some new
  set_count new =
      let more = sum_by-set one_if_some places n new old within in
      let was = ap one_if_some (get_or_from_slice_get places n old old at) in
      omega (arith, more, was)

  pub noted_fewer : is_some old ≡ true → count_by is_some (slice_set places n None) + 1 ≡ count_by is_some places
  noted_fewer some =
      let more = set_count None in
      let one : one_if_some old ≡ 1 = ap (λ (b : Bool). if b then 1 else 0) some in
      omega (arith, more, one)

  pub noted_more : (k : ℕ) → old ≡ None → count_by is_some (slice_set places n (Some k)) ≡ count_by is_some places + 1
  noted_more k none =
      let more = set_count (Some k) in
      let was : one_if_some old ≡ 0 = ap one_if_some none in
      omega (arith, more, was)

  pub noted_same : (k : ℕ) → is_some old ≡ true → count_by is_some (slice_set places n (Some k)) ≡ count_by is_some places
  noted_same k some =
      let more = set_count (Some k) in
      let one : one_if_some old ≡ 1 = ap (λ (b : Bool). if b then 1 else 0) some in
      omega (arith, more, one)

-- where one isn't noted, they are fewer than the places
pub noted_below : (places : List (Option ℕ)) (n : ℕ) → slice_get places n ≡ Some None → count_by is_some places < length places
noted_below places n out =
    let more = noted_more places n None out 0 refl in
    let most = count_by-le-length is_some (slice_set places n (Some 0)) in
    let long = length-set places n (Some 0) in
    omega (arith, more, most, long)
