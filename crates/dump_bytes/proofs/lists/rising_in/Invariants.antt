use Rattle.std.proofs.Common.{◌≤◌, ◌-◌, vec_len, vec_capacity}
use Rattle.dump_bytes.specs.Reading.{rising_number_at}
use Rattle.dump_bytes.proofs.Repeating.{IsRising}
use Rattle.dump_bytes.proofs.lists.rising_in.Given as goal

abbrev pub invariant-loop-numbers : goal.invariant-loop-numbers
invariant-loop-numbers l = record {
  room : l.count ≤ vec_capacity l.numbers;
  along : IsRising (λ x. x) l.ceiling rising_number_at l.count l.fn.bytes l.numbers.items l.floor l.rest;
}

abbrev pub decreases-loop-numbers : goal.decreases-loop-numbers
decreases-loop-numbers l = l.count - vec_len l.numbers
