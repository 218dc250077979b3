use Rattle.std.proofs.Common.{drop, map}
use Rattle.std.specs.List.{flat_map}
use Rattle.outside_io.proofs.WritesInTurn.{Progress}
use Rattle.dump_bytes.specs.Dumped.{process_of}
use Rattle.dump_bytes.specs.Text.{process_text}
use Rattle.dump_bytes.proofs.write.write_processes.Given as goal

abbrev pub invariant-loop-proc : goal.invariant-loop-proc
invariant-loop-proc g l =
    Progress (g.K.Sink.seen l.initial.sink) (g.K.Sink.seen l.sink)
    (flat_map process_text (map process_of l.procs)) (flat_map process_text (map process_of (drop l.proc-index l.procs)))
