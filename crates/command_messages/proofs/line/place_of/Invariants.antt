use Rattle.std.proofs.Common.{ℕ, ◌<◌, List, [], Bor, get_or, map}
use Rattle.command_messages.specs.LineFaults.{IsOptionWord}
use Rattle.command_messages.proofs.line.place_of.Given as goal

abbrev pub invariant-loop-place : goal.invariant-loop-place
invariant-loop-place l = (k : ℕ) → k < l.place → IsOptionWord l.option (get_or (map (λ (word : Bor (List ℕ)). word.now) l.words) k []) → ⊥
