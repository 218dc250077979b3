use Rattle.std.proofs.Common.{◌≡◌, ◌≤◌, take}
use Rattle.vm_types.specs.Ring.{unpinned}
use Rattle.state_parts.proofs.ring_marks.unpinned.Given as goal

-- the slots before this one are counted
abbrev pub invariant-loop-slot : goal.invariant-loop-slot
invariant-loop-slot l = (l.count ≤ l.slot) × (l.count ≡ unpinned (take l.slot l.ring.slots))
