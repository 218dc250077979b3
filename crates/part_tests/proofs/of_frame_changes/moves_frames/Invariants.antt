use Rattle.std.proofs.Common.{◌≡◌, length}
use Rattle.part_tests.proofs.of_frame_changes.moves_frames.Given as goal

abbrev pub invariant-loop-number : goal.invariant-loop-number
invariant-loop-number g l = length l.frames.rows ≡ 3
