use Rattle.std.proofs.Common.{drop}
use Rattle.run_words.specs.Text.{dirty_lines}
use Rattle.outside_io.proofs.WritesInTurn.{Progress}
use Rattle.run_text.proofs.dirty_lines.print_dirty.Given as goal

abbrev pub invariant-loop-page : goal.invariant-loop-page
invariant-loop-page g l =
    Progress (g.K.Sink.seen l.initial.sink) (g.K.Sink.seen l.sink)
    (dirty_lines l.names l.dirty) (dirty_lines l.names (drop l.page-index l.dirty))
