use Rattle.std.proofs.Common.{◌≡◌, ◌∙◌, ◌++◌, ℕ, List, ap, take, length, min, arith}
use Rattle.std.proofs.lemmas.List.{take_min}
use Rattle.outside_io.proofs.front.keep_front.Goals as goal

pub returns : goal.returns
returns c =
    let count : c.min-count.result ≡ min 80 (length c.args.line.now) = omega (arith, c.min-count.ensures) in
    let front : take c.min-count.result c.args.line.now ≡ take 80 c.args.line.now = ap (λ (k : ℕ). take k c.args.line.now) count ∙ take_min 80 c.args.line.now in
    c.push_word.ensures.items ∙ ap (λ (xs : List ℕ). xs ++ take c.min-count.result c.args.line.now) c.clear.ensures ∙ front
