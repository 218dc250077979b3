use Rattle.std.proofs.Common.{false, arith}
use Rattle.working_set.specs.Slots.{slot_at}
use Rattle.pager_model.specs.Ring.{unlocked_slot}
use Rattle.state_parts.proofs.Marked.{marked_next, unlocked_is}
use Rattle.state_parts.proofs.ring_marks.unlock_all.Goals as goal

pub loop-slot-preserved : goal.loop-slot-preserved
loop-slot-preserved c =
    marked_next unlocked_slot c.args.ring.now c.loop-slot.ring c.loop-slot.slot (omega arith) c.loop-slot.invariant c.mark.new.ring false c.mark.ensures (unlocked_is (slot_at c.args.ring.now c.loop-slot.slot))
