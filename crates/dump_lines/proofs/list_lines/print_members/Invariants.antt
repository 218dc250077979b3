use Rattle.std.proofs.Common.{drop}
use Rattle.std.specs.List.{flat_map}
use Rattle.outside_io.proofs.WritesInTurn.{Progress}
use Rattle.dump_lines.specs.ListLines.{on_line}
use Rattle.dump_lines.proofs.list_lines.print_members.Given as goal

abbrev pub invariant-loop-frame : goal.invariant-loop-frame
invariant-loop-frame g l =
    Progress (g.K.Sink.seen l.initial.sink) (g.K.Sink.seen l.sink) (flat_map on_line l.members) (flat_map on_line (drop l.frame-index l.members))
