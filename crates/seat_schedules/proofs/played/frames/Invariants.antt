use Rattle.std.proofs.Common.{◌≡◌, map}
use Rattle.std.specs.List.{range_with_len}
use Rattle.vm_state.specs.Readings.{row_at}
use Rattle.seat_schedules.proofs.played.frames.Given as goal

-- the frames before this one are there
abbrev pub invariant-loop-f : goal.invariant-loop-f
invariant-loop-f g l = l.rows.items ≡ map (row_at l.state) (range_with_len 0 l.f)
