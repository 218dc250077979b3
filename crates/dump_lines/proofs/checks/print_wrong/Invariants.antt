use Rattle.std.proofs.Common.{drop}
use Rattle.outside_io.proofs.WritesInTurn.{Progress}
use Rattle.dump_lines.specs.Checks.{checks_from}
use Rattle.dump_lines.specs.WrongLines.{wrong_lines}
use Rattle.dump_lines.proofs.checks.print_wrong.Given as goal

abbrev pub invariant-loop-f : goal.invariant-loop-f
invariant-loop-f g l =
    Progress (g.K.Sink.seen l.initial.sink) (g.K.Sink.seen l.sink)
    (wrong_lines (checks_from 0 l.frames l.counts)) (wrong_lines (checks_from l.f (drop l.f l.frames) (drop l.f l.counts)))
