use Rattle.std.specs.Prelude.{take}
use Rattle.dump_lines.specs.Occurrences.{times_in}
use Rattle.dump_lines.specs.Raised.{AreRaised}
use Rattle.dump_lines.proofs.counting.count_members.Given as goal

abbrev pub invariant-loop-frame : goal.invariant-loop-frame
invariant-loop-frame l = AreRaised (times_in (take l.frame-index l.members)) l.initial.counts l.counts
