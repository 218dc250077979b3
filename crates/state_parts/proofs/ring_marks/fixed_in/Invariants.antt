use Rattle.std.proofs.Common.{◌≡◌, ◌≤◌, count_by, take}
use Rattle.pager_model.specs.Served.{is_fixed_in}
use Rattle.state_parts.proofs.ring_marks.fixed_in.Given as goal

-- the slots before this one are counted
abbrev pub invariant-loop-slot : goal.invariant-loop-slot
invariant-loop-slot l = (l.count ≤ l.slot) × (l.count ≡ count_by (is_fixed_in l.at.0 l.pages) (take l.slot l.ring.slots))
