use Rattle.std.proofs.Common.{◌≡◌, ◌<◌, ◌∙◌, length, sym, ap, arith}
use Rattle.std.specs.Option.{is_some}
use Rattle.working_set.specs.Slots.{slot_at}
use Rattle.pager_model.specs.Ring.{repinned_slot}
use Rattle.state_parts.specs.Repinned.{page_to_pin}
use Rattle.state_parts.proofs.Marked.{left_next, pinned_next, repinned_in, slot_is}
use Rattle.shadow_tables.proofs.Marks.{pin_inside, pin_stays}
use Rattle.shadow_tables.proofs.ring.pin_range.Goals as goal
use Rattle.shadow_tables.proofs.ring.pin_range.Goals.{then-is_some, else-is_some}

pub loop-slot-preserved : goal.loop-slot-preserved
loop-slot-preserved c =
    let change = repinned_slot c.args.pin c.args.at.0 c.args.pages in
    let old = c.args.ring.now in
    let slot = slot_at old c.loop-slot.slot in
    let within : c.loop-slot.slot < length old.slots = omega arith in
    let changes : c.is_some.result ≡ is_some (page_to_pin c.args.pin c.args.at.0 c.args.pages slot) =
    c.is_some.ensures ∙ ap is_some (c.page_to_pin.ensures ∙ ap (page_to_pin c.args.pin c.args.at.0 c.args.pages) (slot_is change old c.loop-slot.ring c.loop-slot.slot within c.loop-slot.invariant)) in
    elim c.if-is_some.branch [
      | then-is_some w ↦
          w.ring-is
          ∙ pinned_next change old c.loop-slot.ring c.loop-slot.slot within c.loop-slot.invariant w.mark_pin.new.ring c.args.pin w.mark_pin.ensures (repinned_in c.args.pin c.args.at.0 c.args.pages slot (pin_inside c.args.at.0 c.args.pages c.args.pin slot (sym changes ∙ w.if-is_some.true)))
      | else-is_some w ↦
          w.ring-is
          ∙ left_next change old c.loop-slot.ring c.loop-slot.slot within c.loop-slot.invariant (pin_stays c.args.at.0 c.args.pages c.args.pin slot (sym changes ∙ w.if-is_some.false))
    ]
