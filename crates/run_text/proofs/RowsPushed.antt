-- One row more at the end.
use Rattle.std.proofs.Common.{◌≡◌, ℕ, ◌+◌, List, [], ◌∷◌, ◌++◌, map, sym, ap, ◌∙◌, arith}
use Rattle.std.specs.List.{range_with_len}
use Rattle.std.proofs.lemmas.List.{map-append}
use Rattle.std.proofs.lemmas.List.FromFn.{map-range_with_len_more}

pub row_pushed : {X Y : Type 0} (view : X → Y) (f : ℕ → Y) (rows new : List X) (n : ℕ) (x : X) → new ≡ rows ++ x ∷ [] → map view rows ≡ map f (range_with_len 0 n) → view x ≡ f n
    → map view new ≡ map f (range_with_len 0 (n + 1))
row_pushed {X} {Y} view f rows new n x is are one =
    ap (map view) is
    ∙ (map-append view rows (x ∷ []) ∙ ((λ i. are i ++ one i ∷ []) ∙ sym (map-range_with_len_more f 0 n n (omega arith))))
