-- The rows that what is kept and the cells make, once a frame's changes.
use Rattle.std.proofs.Common.{◌≡◌, ℕ, zero, suc, List, [], ◌∷◌, length, map, set, get_or, refl, sym, ◌∙◌, ap, ap₂, arith, replicate}
use Rattle.std.specs.List.{range_with_len}
use Rattle.std.proofs.lemmas.List.{length-replicate, get_or-replicate}
use Rattle.std.proofs.lemmas.List.FromFn.{fill_by_all, length-map-range_with_len, get_or-map-range_with_len}
use Rattle.pfn_database.specs.declared.row.Row.{Row}
use Rattle.pfn_database.specs.declared.kept.Kept.{Kept}
use Rattle.pfn_database.specs.Rows.{bad_row}
use Rattle.pfn_database.specs.Kept.{joined, kept_of, rows_of}

-- there is a row for each frame
pub length-rows_of : (kept : List Kept) (cells : List (ℕ × ℕ)) → length cells ≡ length kept → length (rows_of kept cells) ≡ length kept
length-rows_of [] cells same = refl
length-rows_of (k ∷ kept) [] same = absurd (omega arith)
length-rows_of (k ∷ kept) (c ∷ cells) same = let rest = length-rows_of kept cells (omega arith) in omega arith

-- the row of a frame, also past the frames
pub get_or-rows_of : (kept : List Kept) (cells : List (ℕ × ℕ)) → length cells ≡ length kept → (f : ℕ) → get_or (rows_of kept cells) f bad_row ≡ joined (get_or kept f (kept_of bad_row)) (get_or cells f (0, 0))
get_or-rows_of [] [] same f = refl
get_or-rows_of [] (c ∷ cells) same f = absurd (omega arith)
get_or-rows_of (k ∷ kept) [] same f = absurd (omega arith)
get_or-rows_of (k ∷ kept) (c ∷ cells) same zero = refl
get_or-rows_of (k ∷ kept) (c ∷ cells) same (suc f) = get_or-rows_of kept cells (omega arith) f

-- both are written
rows_of-set : (kept : List Kept) (cells : List (ℕ × ℕ)) → length cells ≡ length kept → (f : ℕ) (k : Kept) (c : ℕ × ℕ) → rows_of (set kept f k) (set cells f c) ≡ set (rows_of kept cells) f (joined k c)
rows_of-set [] [] same f k c = refl
rows_of-set [] (d ∷ cells) same f k c = absurd (omega arith)
rows_of-set (j ∷ kept) [] same f k c = absurd (omega arith)
rows_of-set (j ∷ kept) (d ∷ cells) same zero k c = refl
rows_of-set (j ∷ kept) (d ∷ cells) same (suc f) k c = ap (λ (rows : List Row). joined j d ∷ rows) (rows_of-set kept cells (omega arith) f k c)

-- only what is kept is written
rows_of-keep : (kept : List Kept) (cells : List (ℕ × ℕ)) → length cells ≡ length kept → (f : ℕ) (k : Kept) → rows_of (set kept f k) cells ≡ set (rows_of kept cells) f (joined k (get_or cells f (0, 0)))
rows_of-keep [] [] same f k = refl
rows_of-keep [] (d ∷ cells) same f k = absurd (omega arith)
rows_of-keep (j ∷ kept) [] same f k = absurd (omega arith)
rows_of-keep (j ∷ kept) (d ∷ cells) same zero k = refl
rows_of-keep (j ∷ kept) (d ∷ cells) same (suc f) k = ap (λ (rows : List Row). joined j d ∷ rows) (rows_of-keep kept cells (omega arith) f k)

module _ (kept : List Kept) (cells : List (ℕ × ℕ)) (same : length cells ≡ length kept) (f : ℕ) (old : Kept) (was : old ≡ get_or kept f (kept_of bad_row)) where
  -- the row of the frame, by what was kept
  pub row-is : joined old (get_or cells f (0, 0)) ≡ get_or (rows_of kept cells) f bad_row
  row-is = ap (λ k. joined k (get_or cells f (0, 0))) was ∙ sym (get_or-rows_of kept cells same f)

  -- the row is edited, and its cells stay
  pub edited : (new : Kept) (edit : Row → Row) → joined new (get_or cells f (0, 0)) ≡ edit (joined old (get_or cells f (0, 0))) → rows_of (set kept f new) cells ≡ set (rows_of kept cells) f (edit (get_or (rows_of kept cells) f bad_row))
  edited new edit is = rows_of-keep kept cells same f new ∙ ap (λ row. set (rows_of kept cells) f row) (is ∙ ap edit row-is)

  -- the row is edited with its cells
  pub rewritten : (new : Kept) (c : ℕ × ℕ) (edit : Row → Row) → joined new c ≡ edit (joined old (get_or cells f (0, 0))) → rows_of (set kept f new) (set cells f c) ≡ set (rows_of kept cells) f (edit (get_or (rows_of kept cells) f bad_row))
  rewritten new c edit is = rows_of-set kept cells same f new c ∙ ap (λ row. set (rows_of kept cells) f row) (is ∙ ap edit row-is)

-- rows with shares and slots of 0
pub rows_of-opening : (row : ℕ → Row) (n : ℕ) (kept : List Kept) (cells : List (ℕ × ℕ)) → ((f : ℕ) → joined (kept_of (row f)) (0, 0) ≡ row f) → kept ≡ map (λ f. kept_of (row f)) (range_with_len 0 n) → cells ≡ replicate n (0, 0) → rows_of kept cells ≡ map row (range_with_len 0 n)
rows_of-opening row n kept cells plain made zeros =
    let long : length kept ≡ n = ap length made ∙ length-map-range_with_len (λ f. kept_of (row f)) 0 n in
    let same : length cells ≡ length kept = ap length zeros ∙ length-replicate {A = ℕ × ℕ} n (0, 0) ∙ sym long in
    fill_by_all row (rows_of kept cells) n bad_row (length-rows_of kept cells same ∙ long) (λ k within.
    get_or-rows_of kept cells same k
    ∙ ap₂ joined (ap (λ list. get_or list k (kept_of bad_row)) made ∙ get_or-map-range_with_len (λ f. kept_of (row f)) 0 n k k (kept_of bad_row) within (omega arith)) (ap (λ list. get_or list k (0, 0)) zeros ∙ get_or-replicate {A = ℕ × ℕ} n k (0, 0) (0, 0) within)
    ∙ plain k)
