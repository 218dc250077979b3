use Rattle.std.proofs.Common.{◌≡◌, map}
use Rattle.std.specs.List.{range_with_len}
use Rattle.seat_schedules.specs.Played.{page_block_at}
use Rattle.seat_schedules.proofs.played.blocks.Given as goal

-- the blocks before this one are there
abbrev pub invariant-loop-b : goal.invariant-loop-b
invariant-loop-b g l = l.blocks.items ≡ map (page_block_at l.state) (range_with_len 0 l.b)
