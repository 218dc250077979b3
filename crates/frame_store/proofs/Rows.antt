-- Blocks by rows: which row and place each one has, and the number of its row's first block.
use Rattle.std.proofs.Common.{◌≡◌, ℕ, zero, suc, ◌+◌, ◌-◌, ◌<◌, ◌≤◌, List, [], ◌∷◌, ◌++◌, Some, length, map, sum, take, slice_get, slice_index_or, refl, inl, inr, sym, ap, ◌∙◌, subst, arith, length-append}
use Rattle.std.specs.Prelude.{◌⊎◌}
use Rattle.std.specs.List.{range_with_len}
use Rattle.std.proofs.lemmas.Bool.{cases_lt}
use Rattle.std.proofs.lemmas.List.{get_or-append_right, get_or-append-add, get_or_append_left}
use Rattle.std.proofs.lemmas.List.FromFn.{get_or-map-range_with_len, length-map-range_with_len, map-range_with_len_more}
use Rattle.std.proofs.lemmas.List.Sums.{sum_by-cons, sum_by_more}
use Rattle.std.proofs.lemmas.Option.{none-some, same_Some, get_or_from_slice_get, slice_get_read, slice_get_within}
use Rattle.vm_types.specs.declared.names.BlockId.{BlockId}
use Rattle.frame_store.specs.Blocks.{row_by_row}
use Rattle.frame_store.specs.Numbers.{first_at, firsts}

-- ---- two lists in a row
pub get_before : {X : Type 0} (xs ys : List X) (k : ℕ) (x : X) → k < length xs → slice_get (xs ++ ys) k ≡ Some x → slice_get xs k ≡ Some x
get_before xs ys k x below there = slice_get_read xs (length xs) k x refl below (sym (get_or_from_slice_get (xs ++ ys) k x x there) ∙ get_or_append_left xs ys x k below)

pub get_past : {X : Type 0} (xs ys : List X) (n k : ℕ) (x : X) → length xs ≡ n → n ≤ k → slice_get (xs ++ ys) k ≡ Some x → slice_get ys (k - n) ≡ Some x
get_past xs ys n k x same past there =
    let within = slice_get_within (xs ++ ys) k x there in
    slice_get_read ys (length ys) (k - n) x refl (omega (arith, within, length-append xs ys)) (sym (get_or_from_slice_get (xs ++ ys) k x x there) ∙ get_or-append_right xs ys n k x same past)

pub get_left : {X : Type 0} (xs ys : List X) (k : ℕ) (x : X) → slice_get xs k ≡ Some x → slice_get (xs ++ ys) k ≡ Some x
get_left xs ys k x there =
    let below = slice_get_within xs k x there in
    slice_get_read (xs ++ ys) (length (xs ++ ys)) k x refl (omega (arith, below, length-append xs ys)) (sym (get_or_append_left xs ys x k below ∙ get_or_from_slice_get xs k x x there))

pub get_right : {X : Type 0} (xs ys : List X) (k : ℕ) (x : X) → slice_get ys k ≡ Some x → slice_get (xs ++ ys) (length xs + k) ≡ Some x
get_right xs ys k x there =
    let below = slice_get_within ys k x there in
    slice_get_read (xs ++ ys) (length (xs ++ ys)) (length xs + k) x refl (omega (arith, below, length-append xs ys)) (sym (get_or-append-add xs ys k x ∙ get_or_from_slice_get ys k x x there))

-- ---- one row
pub get_row : (name : ℕ → BlockId) (n k : ℕ) → k < n → slice_get (map name (range_with_len 0 n)) k ≡ Some (name k)
get_row name n k below =
    slice_get_read (map name (range_with_len 0 n)) n k (name k) (sym (length-map-range_with_len name 0 n)) below (sym (get_or-map-range_with_len name 0 n k k (name k) below (omega arith)))

-- ---- rows
pub length_rows : (name : ℕ → ℕ → BlockId) (row : ℕ) (lengths : List ℕ) → length (row_by_row name row lengths) ≡ sum lengths
length_rows name row [] = refl
length_rows name row (n ∷ lengths) =
    length-append (map (name row) (range_with_len 0 n)) (row_by_row name (row + 1) lengths)
    ∙ (ap (λ k. k + length (row_by_row name (row + 1) lengths)) (length-map-range_with_len (name row) 0 n)
    ∙ (ap (λ k. n + k) (length_rows name (row + 1) lengths) ∙ sym (sum_by-cons (λ k. k) n lengths)))

-- the block k of some rows is block `place` of row `row`
pub record IsIn (name : ℕ → ℕ → BlockId) (first : ℕ) (lengths : List ℕ) (k : ℕ) (b : BlockId) : Type 0 where
  pub row : ℕ
  pub place : ℕ
  pub count : ℕ
  pub there : slice_get lengths row ≡ Some count
  pub within : place < count
  pub named : b ≡ name (first + row) place
  pub at : sum (take row lengths) + place ≡ k

pub in_rows : (name : ℕ → ℕ → BlockId) (first : ℕ) (lengths : List ℕ) (k : ℕ) (b : BlockId) → slice_get (row_by_row name first lengths) k ≡ Some b → IsIn name first lengths k b
in_rows name first [] k b there = absurd (none-some b there)
in_rows name first (n ∷ lengths) k b there = go (cases_lt k n) (in_rows name (first + 1) lengths (k - n) b)
  where
    one : List BlockId
    one = map (name first) (range_with_len 0 n)

    go : (k < n) ⊎ (n ≤ k) → (slice_get (row_by_row name (first + 1) lengths) (k - n) ≡ Some b → IsIn name (first + 1) lengths (k - n) b) → IsIn name first (n ∷ lengths) k b
    go (inl below) later =
        let long = length-map-range_with_len (name first) 0 n in
        let named = same_Some _ _ (sym (get_before one (row_by_row name (first + 1) lengths) k b (omega (arith, long)) there) ∙ get_row (name first) n k below) in
        record { row = 0; place = k; count = n; there = refl; within = below; named = named ∙ ap (λ r. name r k) (omega arith); at = omega arith }
    go (inr past) later =
        let rest = later (get_past one (row_by_row name (first + 1) lengths) n k b (length-map-range_with_len (name first) 0 n) past there) in
        let at = rest.at in
        let total = sum_by-cons (λ k. k) n (take rest.row lengths) in
        record {
          row = suc rest.row;
          place = rest.place;
          count = rest.count;
          there = rest.there;
          within = rest.within;
          named = rest.named ∙ ap (λ r. name r rest.place) (omega arith);
          at = omega (arith, at, total);
        }

-- and each place of each row is there
pub rows_have : (name : ℕ → ℕ → BlockId) (first : ℕ) (lengths : List ℕ) (row n place : ℕ) → slice_get lengths row ≡ Some n → place < n → (k : ℕ) × (slice_get (row_by_row name first lengths) k ≡ Some (name (first + row) place))
rows_have name first [] row n place there within = absurd (none-some n there)
rows_have name first (m ∷ lengths) zero n place there within =
    let below : place < m = subst (λ k. place < k) (sym (same_Some m n there)) within in
    (place, get_left (map (name first) (range_with_len 0 m)) (row_by_row name (first + 1) lengths) place (name (first + 0) place) (get_row (name first) m place below ∙ ap (λ r. Some (name r place)) (omega arith)))
rows_have name first (m ∷ lengths) (suc row) n place there within =
    let rest = rows_have name (first + 1) lengths row n place there within in (
      length (map (name first) (range_with_len 0 m)) + rest.0,
      get_right (map (name first) (range_with_len 0 m)) (row_by_row name (first + 1) lengths) rest.0 (name (first + suc row) place) (rest.1 ∙ ap (λ r. Some (name r place)) (omega arith)),
    )

-- ---- the numbers of the rows' first blocks
pub first_is : (from : ℕ) (lengths : List ℕ) (row : ℕ) → row < length lengths → first_at (firsts from lengths) row ≡ from + sum (take row lengths)
first_is from lengths row below = get_or-map-range_with_len (λ r. from + sum (take r lengths)) 0 (length lengths) row row 0 below (omega arith)

pub firsts_more : (from : ℕ) (lengths : List ℕ) (numbers new : List ℕ) (next row : ℕ) → next ≡ from + sum (take row lengths)
    → numbers ≡ map (λ r. from + sum (take r lengths)) (range_with_len 0 row) → new ≡ numbers ++ next ∷ [] → new ≡ map (λ r. from + sum (take r lengths)) (range_with_len 0 (row + 1))
firsts_more from lengths numbers new next row at are is =
    is ∙ (ap (λ xs. xs ++ next ∷ []) are ∙ (ap (λ n. map (λ r. from + sum (take r lengths)) (range_with_len 0 row) ++ n ∷ []) at
    ∙ sym (map-range_with_len_more (λ r. from + sum (take r lengths)) 0 row row (omega arith))))

pub next_more : (from : ℕ) (lengths : List ℕ) (next row : ℕ) → row < length lengths → next ≡ from + sum (take row lengths) → next + slice_index_or lengths row 0 ≡ from + sum (take (row + 1) lengths)
next_more from lengths next row below at = let more = sum_by_more (λ k. k) lengths row 0 below in omega (arith, at, more)
