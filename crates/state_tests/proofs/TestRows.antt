-- A list that the tests' helpers make, one item after another.
use Rattle.std.proofs.Common.{◌≡◌, ℕ, ◌+◌, List, ◌∷◌, [], ◌++◌, map, sym, ap, ◌∙◌, arith, append_assoc}
use Rattle.std.specs.List.{range_with_len}
use Rattle.std.proofs.lemmas.List.FromFn.{map-range_with_len_more}

-- one item more of a row
pub item_more : {X : Type 0} (f : ℕ → X) (old items new : List X) (n : ℕ) (x : X) → items ≡ old ++ map f (range_with_len 0 n) → x ≡ f n → new ≡ items ++ x ∷ [] → new ≡ old ++ map f (range_with_len 0 (n + 1))
item_more f old items new n x before at is =
    is ∙ ((λ i. before i ++ at i ∷ []) ∙ (append_assoc old (map f (range_with_len 0 n)) (f n ∷ []) ∙ ap (λ ys. old ++ ys) (sym (map-range_with_len_more f 0 n n (omega arith)))))
