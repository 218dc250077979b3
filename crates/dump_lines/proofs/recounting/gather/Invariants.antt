use Rattle.std.proofs.Common.{◌≡◌, map}
use Rattle.std.specs.List.{range_with_len}
use Rattle.dump_lines.specs.Gathered.{counts_at}
use Rattle.dump_lines.proofs.recounting.gather.Given as goal

abbrev pub invariant-loop-f : goal.invariant-loop-f
invariant-loop-f l = l.counts.items ≡ map (counts_at l.shares l.uses l.free l.modified) (range_with_len 0 l.f)
