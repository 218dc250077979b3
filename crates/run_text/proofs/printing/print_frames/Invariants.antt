use Rattle.std.proofs.Common.{drop, map}
use Rattle.run_words.specs.Text.{frame_lines}
use Rattle.run_text.specs.Rows.{frame_view}
use Rattle.outside_io.proofs.WritesInTurn.{Progress}
use Rattle.run_text.proofs.printing.print_frames.Given as goal

abbrev pub invariant-loop-f : goal.invariant-loop-f
invariant-loop-f g l =
    Progress (g.K.Sink.seen l.initial.sink) (g.K.Sink.seen l.sink)
    (frame_lines l.names 0 (map frame_view l.frames)) (frame_lines l.names l.f (map frame_view (drop l.f l.frames)))
