use Rattle.std.proofs.Common.{drop}
use Rattle.std.specs.List.{flat_map}
use Rattle.outside_io.proofs.WritesInTurn.{Progress}
use Rattle.dump_bytes.specs.Text.{frame_text}
use Rattle.dump_bytes.proofs.write.write_frames.Given as goal

abbrev pub invariant-loop-frame : goal.invariant-loop-frame
invariant-loop-frame g l =
    Progress (g.K.Sink.seen l.initial.sink) (g.K.Sink.seen l.sink)
    (flat_map frame_text l.frames) (flat_map frame_text (drop l.frame-index l.frames))
