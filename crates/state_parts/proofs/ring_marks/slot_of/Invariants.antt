use Rattle.std.proofs.Common.{◌≡◌, ◌<◌, ℕ, false}
use Rattle.working_set.specs.Slots.{slot_at}
use Rattle.pager_model.specs.Lookups.{has_vpn}
use Rattle.state_parts.proofs.ring_marks.slot_of.Given as goal

-- no slot before this one has the page number
abbrev pub invariant-loop-slot : goal.invariant-loop-slot
invariant-loop-slot l = (k : ℕ) → k < l.slot → has_vpn l.vpn (slot_at l.ring k) ≡ false
