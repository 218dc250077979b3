use Rattle.std.proofs.Common.{drop}
use Rattle.outside_io.proofs.WritesInTurn.{Progress}
use Rattle.dump_lines.specs.FrameLines.{frame_lines}
use Rattle.dump_lines.proofs.frames.print_frames.Given as goal

abbrev pub invariant-loop-f : goal.invariant-loop-f
invariant-loop-f g l =
    Progress (g.K.Sink.seen l.initial.sink) (g.K.Sink.seen l.sink) (frame_lines 0 l.frames) (frame_lines l.f (drop l.f l.frames))
