use Rattle.std.proofs.Common.{◌≡◌, ◌+◌, false, length}
use Rattle.command_messages.specs.Marks.{before}
use Rattle.command_messages.proofs.marks.place_of.Given as goal

abbrev pub invariant-loop-rest : goal.invariant-loop-rest
invariant-loop-rest l = (l.place + length (before l.left l.inside l.rest) ≡ length (before l.fn.words false l.fn.text)) × (l.place + length l.rest ≡ length l.fn.text)

abbrev pub decreases-loop-rest : goal.decreases-loop-rest
decreases-loop-rest l = length l.rest
