use Rattle.std.proofs.Common.{List, Some, ℕ, ap, arith, refl, slice_set, true, ◌∙◌}
use Rattle.pager_model.specs.Sets.{at_page}
use Rattle.shadow_flat.specs.Slots.{bytes_kept}
use Rattle.shadow_flat.proofs.Slots.{bytes_again, found_again, set_there, slot_at, slots_again}
use Rattle.shadow_flat.proofs.kept_pages.keep.Goals as goal

pub index_mut-requires : goal.index_mut-requires
index_mut-requires c =
    let within = c.requires.slots.within c.args.page c.args.slot c.requires.slot in
    omega (arith, within, c.args.rows.now.ok.0)

pub returns-clause-slots : goal.returns-clause-slots
returns-clause-slots c =
    let rows = c.args.rows.now.items in
    slots_again c.args.slots.now c.set.new.self c.args.page c.args.slot rows (slice_set rows c.args.slot.at c.first_bytes.result) c.first_bytes.result c.requires.slot refl c.requires.slots
    (set_there c.args.slots.now c.set.new.self c.args.page (Some (slot_at c.args.slot.at true)) c.args.slot c.set.result c.requires.slot c.set.ensures)

pub returns-clause-kept : goal.returns-clause-kept
returns-clause-kept c =
    let rows = c.args.rows.now.items in
    bytes_again c.args.slots.now c.set.new.self c.args.page c.args.slot rows (slice_set rows c.args.slot.at c.first_bytes.result) c.first_bytes.result c.requires.slot refl c.requires.slots
    (set_there c.args.slots.now c.set.new.self c.args.page (Some (slot_at c.args.slot.at true)) c.args.slot c.set.result c.requires.slot c.set.ensures)
    ∙ ap (λ (bytes : List ℕ). at_page (bytes_kept (c.args.slots.now, rows)) c.args.page (Some bytes))
    (c.first_bytes.ensures ∙ found_again c.args.config.now c.args.origin (c.args.slots.now, rows) c.args.page c.args.slot c.requires.slot c.if-slot.false)
