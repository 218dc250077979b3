use Rattle.std.proofs.Common.{drop, map}
use Rattle.run_words.specs.Text.{process_lines}
use Rattle.run_text.specs.Rows.{process_view}
use Rattle.outside_io.proofs.WritesInTurn.{Progress}
use Rattle.run_text.proofs.printing.print_processes.Given as goal

abbrev pub invariant-loop-p : goal.invariant-loop-p
invariant-loop-p g l =
    Progress (g.K.Sink.seen l.initial.sink) (g.K.Sink.seen l.sink)
    (process_lines 0 (map process_view l.processes)) (process_lines l.p (map process_view (drop l.p l.processes)))
