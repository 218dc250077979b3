use Rattle.std.proofs.Common.{◌+◌, drop}
use Rattle.outside_io.proofs.WritesInTurn.{Progress}
use Rattle.study_command.specs.StudyText.{lru_lines}
use Rattle.study_command.proofs.printing.print_lru.Given as goal

abbrev pub invariant-loop-i : goal.invariant-loop-i
invariant-loop-i g l =
    Progress (g.K.Sink.seen l.initial.sink)
    (g.K.Sink.seen l.sink)
    (lru_lines 1 l.lru) (lru_lines (l.i + 1) (drop l.i l.lru))
