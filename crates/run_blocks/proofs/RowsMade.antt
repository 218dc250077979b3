-- The names of blocks that are made one row after another.
use Rattle.std.proofs.Common.{◌≡◌, ℕ, ◌+◌, ◌<◌, List, ◌∷◌, ◌++◌, length, map, drop, slice_index_or, sym, ap, ◌∙◌, append_assoc}
use Rattle.std.specs.List.{range_with_len}
use Rattle.std.proofs.lemmas.List.{drop_more}
use Rattle.vm_types.specs.declared.names.BlockId.{BlockId}
use Rattle.frame_store.specs.Blocks.{row_by_row}

-- one row more
pub row_more : {X : Type 0} (name : ℕ → ℕ → BlockId) (count : X → ℕ) (xs : List X) (i : ℕ) (x : X) (ids new all : List BlockId) → i < length xs → x ≡ slice_index_or xs i x
    → new ≡ ids ++ map (name i) (range_with_len 0 (count x)) → ids ++ row_by_row name i (map count (drop i xs)) ≡ all → new ++ row_by_row name (i + 1) (map count (drop (i + 1) xs)) ≡ all
row_more name count xs i x ids new all below read is before =
    let rest = row_by_row name (i + 1) (map count (drop (i + 1) xs)) in
    let next : drop i xs ≡ x ∷ drop (i + 1) xs = drop_more xs i x below ∙ ap (λ y. y ∷ drop (i + 1) xs) (sym read) in
    ap (λ ys. ys ++ rest) is ∙ (append_assoc ids (map (name i) (range_with_len 0 (count x))) rest ∙ (ap (λ ys. ids ++ row_by_row name i (map count ys)) (sym next) ∙ before))
