use Rattle.shadow_history.specs.Counting.{AreOthers}
use Rattle.shadow_history.proofs.counts.place_of.Given as goal

-- those that are passed are of other blocks
abbrev pub invariant-loop-i : goal.invariant-loop-i
invariant-loop-i l = AreOthers l.block l.counts l.i
