use Rattle.std.proofs.Common.{◌≡◌, ◌+◌, map, sum, take}
use Rattle.std.specs.List.{range_with_len}
use Rattle.frame_store.proofs.numbers.firsts.Given as goal

abbrev pub invariant-loop-length : goal.invariant-loop-length
invariant-loop-length l = record {
  numbers : l.numbers.items ≡ map (λ row. l.from + sum (take row l.lengths)) (range_with_len 0 l.length-index);
  next : l.next ≡ l.from + sum (take l.length-index l.lengths);
}
