-- the numbers so far, and room for all
use Rattle.std.proofs.Common.{◌≡◌, ◌≤◌}
use Rattle.std.specs.Prelude.{vec_capacity}
use Rattle.std.specs.List.{range_with_len}
use Rattle.page_pool.proofs.pool.Pool.new.Given as goal

abbrev pub invariant-loop-number : goal.invariant-loop-number
invariant-loop-number l = (l.free.items ≡ range_with_len 0 l.number) × (l.n ≤ vec_capacity l.free)
