-- The rows and the lists of a memory of which nothing is used.
use Rattle.std.proofs.Common.{◌≡◌, ℕ, ◌+◌, ◌≤◌, ◌<◌, zero, suc, Bool, true, false, cond, eqb, ltb, List, [], ◌∷◌, ◌++◌, length, map, filter, not, get_or, refl, sym, ◌∙◌, ap, ap₂, ⊎_elim, set, arith, add-one, replicate}
use Rattle.std.specs.List.{All, range_with_len}
use Rattle.std.proofs.lemmas.Bool.{cases_eq, cases_lt, cases_Bool, eq-eqb, ne_eqb, lt-ltb, le-ltb}
use Rattle.std.proofs.lemmas.List.{map-id, get_or_past, append-nil, length-replicate}
use Rattle.std.proofs.lemmas.List.FromFn.{length-map-range_with_len, get_or-map-range_with_len, filter_of_map_range_with_len_more}
use Rattle.vm_types.specs.declared.names.FrameState.TheVariants.{Free}
use Rattle.page_lists.specs.Lists.{count_of}
use Rattle.page_lists.proofs.Counts.{count_of-cons, count_of-append}
use Rattle.pfn_database.specs.declared.row.Row.{Row}
use Rattle.pfn_database.specs.Rows.{IsRow, bad_row}
use Rattle.pfn_database.specs.Frames.{is_free, is_modified, is_bad, opening_row, opening, IsConsistent}
use Rattle.pfn_database.specs.declared.kept.Kept.{Kept}
use Rattle.pfn_database.specs.Kept.{joined, kept_of, rows_of}
use Rattle.pfn_database.proofs.KeptRows.{get_or-rows_of, rows_of-opening}
use Rattle.pfn_database.proofs.Changes.{IsRow-empty, IsRow-bad}

-- the numbers below n, and which of them a test keeps
pub filter-range_more : (p : ℕ → Bool) (n : ℕ) → filter p (range_with_len 0 (n + 1)) ≡ filter p (range_with_len 0 n) ++ cond (p n) (n ∷ []) []
filter-range_more p n =
    let more = filter_of_map_range_with_len_more p (λ x. x) 0 n n (omega arith) in
    rw (map-id (range_with_len 0 (n + 1)), map-id (range_with_len 0 n)) at more

filter-range_suc : (p : ℕ → Bool) (n : ℕ) → filter p (range_with_len 0 (suc n)) ≡ filter p (range_with_len 0 n) ++ cond (p n) (n ∷ []) []
filter-range_suc p n = let more = filter-range_more p n in rw add-one at more

pub filter-range_same : (p q : ℕ → Bool) (n : ℕ) → ((k : ℕ) → k < n → p k ≡ q k) → filter p (range_with_len 0 n) ≡ filter q (range_with_len 0 n)
filter-range_same p q zero same = refl
filter-range_same p q (suc n) same =
    let front = filter-range_same p q n (λ k h. same k (omega arith)) in
    filter-range_suc p n ∙ rw (front, same n (omega arith)) refl ∙ sym (filter-range_suc q n)

count_of-one : (kept : Bool) (n g : ℕ) → count_of (cond kept (n ∷ []) []) g ≡ cond (eqb n g) (cond kept 1 0) 0
count_of-one true n g = count_of-cons n [] g ∙ omega arith
count_of-one false n g = grind arith

-- one more number counts where it is the one that is counted, and is kept
count_more : (kept here : Bool) (n g : ℕ) → (n ≡ g → kept ≡ here) → cond (ltb g n) (cond here 1 0) 0 + cond (eqb n g) (cond kept 1 0) 0 ≡ cond (ltb g (suc n)) (cond here 1 0) 0
count_more kept here n g agree = ⊎_elim
    (λ before.
    let other : n ≡ g → ⊥ = omega arith in
    let within : g < suc n = omega arith in
    rw (lt-ltb g n before, lt-ltb g (suc n) within, ne_eqb n g other) (omega arith))
    (λ at_end. ⊎_elim
    (λ same.
    let within : g < suc n = omega arith in
    rw (eq-eqb n g same, le-ltb g n at_end, lt-ltb g (suc n) within, agree same) (omega arith))
    (λ other.
    let past : suc n ≤ g = omega arith in
    rw (ne_eqb n g other, le-ltb g n at_end, le-ltb g (suc n) past) refl)
    (cases_eq n g))
    (cases_lt g n)

pub count_of-range : (p : ℕ → Bool) (n g : ℕ) → count_of (filter p (range_with_len 0 n)) g ≡ cond (ltb g n) (cond (p g) 1 0) 0
count_of-range p zero g = rw (le-ltb g 0 (omega arith)) refl
count_of-range p (suc n) g =
    let front = count_of-range p n g in
    let last = count_of-one (p n) n g in
    ap (λ list. count_of list g) (filter-range_suc p n)
    ∙ count_of-append (filter p (range_with_len 0 n)) (cond (p n) (n ∷ []) []) g
    ∙ ap₂ ◌+◌ front last
    ∙ count_more (p n) (p g) n g (ap p)

abbrev one_if : Bool → ℕ
one_if b = cond b 1 0

-- whether a frame has a place on the free list, as its row says
free_test : (rows : List Row) (g : ℕ) → cond (ltb g (length rows)) (one_if (is_free (get_or rows g bad_row).state)) 0 ≡ one_if (is_free (get_or rows g bad_row).state)
free_test rows g = ⊎_elim
    (λ within. rw (lt-ltb g (length rows) within) refl)
    (λ past. rw (le-ltb g (length rows) past, get_or_past rows g bad_row past) refl)
    (cases_lt g (length rows))

modified_none : (rows : List Row) → All (λ row. is_modified row.state ≡ false) rows → (g : ℕ) → is_modified (get_or rows g bad_row).state ≡ false
modified_none rows none g = ⊎_elim
    (λ within. none g bad_row within)
    (λ past. rw (get_or_past rows g bad_row past) refl)
    (cases_lt g (length rows))

-- the free frames among these rows, in number order
pub IsConsistent-listed : (rows : List Row) → All IsRow rows → All (λ row. is_modified row.state ≡ false) rows → IsConsistent (record { rows = rows; free = filter (λ f. is_free (get_or rows f bad_row).state) (range_with_len 0 (length rows)); modified = [] })
IsConsistent-listed rows good none = record {
  free = λ g. count_of-range (λ f. is_free (get_or rows f bad_row).state) (length rows) g ∙ free_test rows g;
  modified = λ g. rw (modified_none rows none g) refl;
  rows = good;
}

-- what every row of the opening is
opening_good : (bad : List ℕ) (k : ℕ) → IsRow (opening_row bad k) × (is_modified (opening_row bad k).state ≡ false) × (is_free (opening_row bad k).state ≡ not (is_bad bad k))
opening_good bad k = ⊎_elim
    (λ t. rw t (IsRow-bad, refl, refl))
    (λ t. rw t (IsRow-empty, refl, refl))
    (cases_Bool (is_bad bad k))

-- the free frames among the first n, by what is kept of them
abbrev pub listed : List Kept → ℕ → List ℕ
listed kept n = filter (λ f. is_free (get_or kept f (kept_of bad_row)).state) (range_with_len 0 n)

pub listed-free : (kept : List Kept) (n : ℕ) → (get_or kept n (kept_of bad_row)).state ≡ Free → listed kept n ++ n ∷ [] ≡ listed kept (n + 1)
listed-free kept n free = sym (filter-range_more (λ f. is_free (get_or kept f (kept_of bad_row)).state) n ∙ rw free refl)

pub listed-other : (kept : List Kept) (n : ℕ) → is_free (get_or kept n (kept_of bad_row)).state ≡ false → listed kept n ≡ listed kept (n + 1)
listed-other kept n other = sym (filter-range_more (λ f. is_free (get_or kept f (kept_of bad_row)).state) n ∙ rw other (append-nil _))

pub count_of-listed : (kept : List Kept) (n : ℕ) → count_of (listed kept n) n ≡ 0
count_of-listed kept n = count_of-range (λ f. is_free (get_or kept f (kept_of bad_row)).state) n n ∙ rw (le-ltb n n (omega arith)) refl

module _ (count : ℕ) (bad : List ℕ) where
  abbrev rows : List Row
  rows = map (opening_row bad) (range_with_len 0 count)

  row-is : (k : ℕ) (d : Row) → k < count → get_or rows k d ≡ opening_row bad k
  row-is k d within = get_or-map-range_with_len (opening_row bad) 0 count k k d within (omega arith)

  length-rows : length rows ≡ count
  length-rows = length-map-range_with_len (opening_row bad) 0 count

  -- every row of the opening keeps what a row keeps, and none is modified
  opening_rows : (P : Row → Type 0) → ((k : ℕ) → P (opening_row bad k)) → All P rows
  opening_rows P each = λ k d within. rw (row-is k d (rw length-rows at within)) (each k)

  opening-listed : filter (λ f. is_free (get_or rows f bad_row).state) (range_with_len 0 (length rows)) ≡ (opening count bad).free
  opening-listed = rw length-rows (filter-range_same _ _ count (λ k within. rw (row-is k bad_row within) (opening_good bad k).2))

  -- what rows and lists made so are
  module _ (kept : List Kept) (cells : List (ℕ × ℕ)) (made : kept ≡ map (λ f. kept_of (opening_row bad f)) (range_with_len 0 count)) (zeros : cells ≡ replicate (length kept) (0, 0)) where
    pub length-made : length kept ≡ count
    length-made = ap length made ∙ length-map-range_with_len (λ f. kept_of (opening_row bad f)) 0 count

    plain : (f : ℕ) → joined (kept_of (opening_row bad f)) (0, 0) ≡ opening_row bad f
    plain f = ⊎_elim (λ t. rw t refl) (λ t. rw t refl) (cases_Bool (is_bad bad f))

    pub rows-made : rows_of kept cells ≡ rows
    rows-made = rows_of-opening (opening_row bad) count kept cells plain made (zeros ∙ ap (λ n. replicate n (0, 0)) length-made)

    same_length : length cells ≡ length kept
    same_length = ap length zeros ∙ length-replicate {A = ℕ × ℕ} (length kept) (0, 0)

    listed-made : listed kept (length kept) ≡ filter (λ f. is_free (get_or rows f bad_row).state) (range_with_len 0 (length rows))
    listed-made = rw (length-made, length-rows) (filter-range_same _ _ count (λ k within.
        ap (λ row. is_free row.state) (sym (get_or-rows_of kept cells same_length k) ∙ ap (λ list. get_or list k bad_row) rows-made)))

    pub free-made : listed kept (length kept) ≡ (opening count bad).free
    free-made = listed-made ∙ opening-listed

    pub IsConsistent-made : (free modified : List ℕ) → free ≡ listed kept (length kept) → modified ≡ [] → IsConsistent (record { rows = rows_of kept cells; free = free; modified = modified })
    IsConsistent-made free modified listed_free none = rw (rows-made, listed_free, none, listed-made) (IsConsistent-listed rows (opening_rows IsRow (λ k. (opening_good bad k).0)) (opening_rows (λ row. is_modified row.state ≡ false) (λ k. (opening_good bad k).1)))

    pub opening-is : (free modified : List ℕ) → free ≡ listed kept (length kept) → modified ≡ [] → record { rows = rows_of kept cells; free = free; modified = modified } ≡ opening count bad
    opening-is free modified listed_free none = rw (rows-made, listed_free, none, free-made) refl

-- zeros over zeros
pub set-zeros : (n f : ℕ) → set (replicate n (0, 0)) f (0, 0) ≡ replicate {A = ℕ × ℕ} n (0, 0)
set-zeros zero f = refl
set-zeros (suc n) zero = refl
set-zeros (suc n) (suc f) = ap (λ (list : List (ℕ × ℕ)). (0, 0) ∷ list) (set-zeros n f)
