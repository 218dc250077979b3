use Rattle.std.proofs.Common.{◌≡◌}
use Rattle.pager_model.specs.Ring.{unlocked_slot}
use Rattle.state_parts.proofs.Marked.{changed_before}
use Rattle.state_parts.proofs.ring_marks.unlock_all.Given as goal

-- the slots before this one are unlocked
abbrev pub invariant-loop-slot : goal.invariant-loop-slot
invariant-loop-slot l = l.ring ≡ changed_before unlocked_slot l.slot l.initial.ring
