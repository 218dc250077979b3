use Rattle.std.proofs.Common.{◌∙◌, ap, sym}
use Rattle.pfn_database.specs.declared.row.Row.{Row}
use Rattle.pager_model.specs.Forget.{holder}
use Rattle.vm_state.specs.History.{pager}
use Rattle.state_pages.specs.declared.found.Backing.{Backing}
use Rattle.vm_swapper.proofs.SlotsSeen.{row_modify}
use Rattle.vm_swapper.proofs.SwapBlocks.{held_within}
use Rattle.rundown.proofs.DirtyHeld.{clean_unheld, dirty_held, shown_frame, shown_none}
use Rattle.rundown.proofs.dirty.is_dirty.Goals as goal

pub frame-row-requires-after_bounds : goal.frame-row-requires-after_bounds
frame-row-requires-after_bounds g c κs within =
    held_within c.args.state.now.config c.args.state.now.past c.run_law.ensures.formed c.run_law.ensures.run c.args.page (c.in-Some.f).0
    (shown_frame (holder c.args.state.now.config (pager c.args.state.now).page c.args.page) c.in-Some.f (sym (ap (λ (z : Backing). z.frame) c.backing.ensures) ∙ c.in-Some.is))

pub returns-in-Some : goal.returns-in-Some
returns-in-Some g c =
    ap (λ (z : Row). z.modify) c.frame-row.ensures
    ∙ (row_modify c.args.state.now (c.in-Some.f).0
    ∙ dirty_held c.args.state.now.config c.args.state.now.past c.args.page c.run_law.ensures.formed c.run_law.ensures.run (c.in-Some.f).0
    (shown_frame (holder c.args.state.now.config (pager c.args.state.now).page c.args.page) c.in-Some.f (sym (ap (λ (z : Backing). z.frame) c.backing.ensures) ∙ c.in-Some.is)))

pub returns-in-None : goal.returns-in-None
returns-in-None g c =
    clean_unheld c.args.state.now.config c.args.state.now.past c.args.page
    (shown_none (holder c.args.state.now.config (pager c.args.state.now).page c.args.page) (sym (ap (λ (z : Backing). z.frame) c.backing.ensures) ∙ c.in-None.is))
