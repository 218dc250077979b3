use Rattle.std.proofs.Common.{drop, map}
use Rattle.outside_io.proofs.WritesInTurn.{Progress}
use Rattle.dump_bytes.specs.Dumped.{process_of}
use Rattle.dump_lines.specs.ProcessLines.{process_lines}
use Rattle.dump_lines.proofs.processes.print_processes.Given as goal

abbrev pub invariant-loop-x : goal.invariant-loop-x
invariant-loop-x g l =
    Progress (g.K.Sink.seen l.initial.sink) (g.K.Sink.seen l.sink)
    (process_lines 0 (map process_of l.procs)) (process_lines l.x (map process_of (drop l.x l.procs)))
