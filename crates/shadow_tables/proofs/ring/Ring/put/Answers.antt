use Rattle.std.proofs.Common.{List, None, Option, ap, set, set-set, ◌∙◌}
use Rattle.vm_types.specs.Ring.{Held, Ring, fresh_slot}
use Rattle.pager_model.specs.Ring.{slotted}
use Rattle.shadow_tables.proofs.ring.Ring.put.Goals as goal

-- the slot is emptied first
pub returns-then-slot-slots : goal.returns-then-slot-slots
returns-then-slot-slots c =
    let ring = c.self.inside.ring in
    let page = fresh_slot c.args.vpn in
    c.place.ensures.placed
    ∙ ap (λ (r : Ring). record { slots = set r.slots c.args.slot page; hand = r.hand }) c.clear.ensures.cleared
    ∙ ap (λ (s : List (Option Held)). record { slots = s; hand = ring.hand }) (set-set ring.slots c.args.slot None page)
    ∙ ap (λ (r : Ring). slotted r c.args.slot c.args.vpn) c.self.view_is
