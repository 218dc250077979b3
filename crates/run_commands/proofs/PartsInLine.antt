-- The parts of a line, one behind the other.
use Rattle.std.proofs.Common.{◌≡◌, ℕ, List, [], ◌++◌, sym, ◌∙◌, ap}
use Rattle.std.proofs.lemmas.List.{append-nil, append_assoc}

-- five words, each with its number
pub five_parts : (a v b w c x d y e z : List ℕ) → a ++ (v ++ (b ++ (w ++ (c ++ (x ++ (d ++ (y ++ (e ++ (z ++ []))))))))) ≡ a ++ v ++ b ++ w ++ c ++ x ++ d ++ y ++ e ++ z
five_parts a v b w c x d y e z =
    ap (λ (last : List ℕ). a ++ (v ++ (b ++ (w ++ (c ++ (x ++ (d ++ (y ++ (e ++ last))))))))) (append-nil z)
    ∙ sym (append_assoc a v _)
    ∙ sym (append_assoc (a ++ v) b _)
    ∙ sym (append_assoc (a ++ v ++ b) w _)
    ∙ sym (append_assoc (a ++ v ++ b ++ w) c _)
    ∙ sym (append_assoc (a ++ v ++ b ++ w ++ c) x _)
    ∙ sym (append_assoc (a ++ v ++ b ++ w ++ c ++ x) d _)
    ∙ sym (append_assoc (a ++ v ++ b ++ w ++ c ++ x ++ d) y _)
    ∙ sym (append_assoc (a ++ v ++ b ++ w ++ c ++ x ++ d ++ y) e z)
