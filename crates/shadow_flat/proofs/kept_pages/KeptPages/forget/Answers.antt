use Rattle.std.proofs.Common.{Some, false, sym, ◌∙◌}
use Rattle.shadow_flat.proofs.Slots.{set_there, slot_at, slots_forgotten}
use Rattle.shadow_flat.proofs.kept_pages.KeptPages.forget.Goals as goal

pub invariant_of-self : goal.invariant_of-self
invariant_of-self c =
    let slots = c.self.inside.slots in
    let there = sym c.at.ensures ∙ c.in-Some.is in
    slots_forgotten slots c.set.new.self c.args.page c.in-Some.slot c.self.inside.rows.items there
    (set_there slots c.set.new.self c.args.page (Some (slot_at c.in-Some.slot.at false)) c.in-Some.slot c.set.result there c.set.ensures) c.self.invariant
