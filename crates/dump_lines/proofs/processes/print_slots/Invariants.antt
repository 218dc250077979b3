use Rattle.std.proofs.Common.{drop}
use Rattle.outside_io.proofs.WritesInTurn.{Progress}
use Rattle.dump_lines.specs.ProcessLines.{slot_lines}
use Rattle.dump_lines.proofs.processes.print_slots.Given as goal

abbrev pub invariant-loop-n : goal.invariant-loop-n
invariant-loop-n g l =
    Progress (g.K.Sink.seen l.initial.sink) (g.K.Sink.seen l.sink) (slot_lines l.x 0 l.slots) (slot_lines l.x l.n (drop l.n l.slots))
