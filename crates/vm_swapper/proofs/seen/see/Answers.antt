use Rattle.std.proofs.Common.{◌∙◌, ap, sym}
use Rattle.pfn_database.specs.declared.row.Row.{Row}
use Rattle.call_begins.proofs.Rows.{row_page}
use Rattle.vm_swapper.proofs.SlotsSeen.{shown_in, slot_seen, slot_small, slot_within}
use Rattle.vm_swapper.proofs.seen.see.Goals as goal

pub frame-row-requires-after_bounds : goal.frame-row-requires-after_bounds
frame-row-requires-after_bounds g c κs within =
    slot_within c.args.state.now (c.args.p).0 c.args.n c.run_law.ensures.formed c.run_law.ensures.run c.in_ok-slot.slot c.in_ok-slot.ensures

pub returns-in-Some-clause-seen : goal.returns-in-Some-clause-seen
returns-in-Some-clause-seen g c =
    sym (slot_seen c.args.state.now (c.args.p).0 c.args.n c.in_ok-slot.slot c.in_ok-slot.ensures
    ∙ ap (shown_in c.in_ok-slot.slot) (sym (ap (λ (z : Row). z.page) c.frame-row.ensures ∙ row_page c.args.state.now ((c.in_ok-slot.slot).frame).0) ∙ c.in-Some.is))

pub returns-in-Some-clause-placed : goal.returns-in-Some-clause-placed
returns-in-Some-clause-placed g c = record {
  within = slot_within c.args.state.now (c.args.p).0 c.args.n c.run_law.ensures.formed c.run_law.ensures.run c.in_ok-slot.slot c.in_ok-slot.ensures;
  small = slot_small c.args.state.now (c.args.p).0 c.args.n c.run_law.ensures.formed c.run_law.ensures.run c.in_ok-slot.slot c.in_ok-slot.ensures;
}

pub returns-in-None-clause-seen : goal.returns-in-None-clause-seen
returns-in-None-clause-seen g c =
    sym (slot_seen c.args.state.now (c.args.p).0 c.args.n c.in_ok-slot.slot c.in_ok-slot.ensures
    ∙ ap (shown_in c.in_ok-slot.slot) (sym (ap (λ (z : Row). z.page) c.frame-row.ensures ∙ row_page c.args.state.now ((c.in_ok-slot.slot).frame).0) ∙ c.in-None.is))
