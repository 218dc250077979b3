use Rattle.std.proofs.Common.{◌≡◌}
use Rattle.pager_model.specs.Ring.{repinned_slot}
use Rattle.state_parts.proofs.Marked.{changed_before}
use Rattle.shadow_tables.proofs.ring.pin_range.Given as goal

-- the slots before this one are pinned, or unpinned, if they have a page of the range
abbrev pub invariant-loop-slot : goal.invariant-loop-slot
invariant-loop-slot l = l.ring ≡ changed_before (repinned_slot l.pin l.at.0 l.pages) l.slot l.initial.ring
