use Rattle.std.proofs.Common.{◌≤◌, ◌-◌, vec_len, vec_capacity}
use Rattle.dump_bytes.specs.Reading.{slot_at}
use Rattle.dump_bytes.proofs.Repeating.{IsAlong}
use Rattle.dump_bytes.proofs.lists.slots_in.Given as goal

abbrev pub invariant-loop-rest : goal.invariant-loop-rest
invariant-loop-rest l = record {
  room : l.count ≤ vec_capacity l.slots;
  along : IsAlong (slot_at) l.count l.fn.bytes l.slots.items l.rest;
}

abbrev pub decreases-loop-rest : goal.decreases-loop-rest
decreases-loop-rest l = l.count - vec_len l.slots
