use Rattle.std.proofs.Common.{◌≤◌, ◌-◌, vec_len, vec_capacity}
use Rattle.dump_bytes.specs.Reading.{number_at}
use Rattle.dump_bytes.proofs.Repeating.{IsAlong}
use Rattle.dump_bytes.proofs.lists.numbers_in.Given as goal

abbrev pub invariant-loop-rest : goal.invariant-loop-rest
invariant-loop-rest l = record {
  room : l.count ≤ vec_capacity l.numbers;
  along : IsAlong (number_at 4 0 l.highest) l.count l.fn.bytes l.numbers.items l.rest;
}

abbrev pub decreases-loop-rest : goal.decreases-loop-rest
decreases-loop-rest l = l.count - vec_len l.numbers
