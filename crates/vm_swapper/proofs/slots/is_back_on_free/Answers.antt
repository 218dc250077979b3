use Rattle.std.proofs.Common.{◌∙◌, ap, sym}
use Rattle.pfn_database.specs.declared.row.Row.{Row}
use Rattle.vm_types.specs.declared.names.FrameState.{FrameState}
use Rattle.vm_types.specs.declared.names.FrameState.TheVariants as state
use Rattle.pager_model.specs.Forget.{holder}
use Rattle.pager_model.specs.Lookups.{passes, is}
use Rattle.pager_policy.specs.Swap.{is_free_frame}
use Rattle.call_begins.proofs.Rows.{row_state}
use Rattle.vm_state.specs.History.{pager}
use Rattle.state_pages.specs.declared.found.Backing.{Backing}
use Rattle.vm_swapper.proofs.SwapBlocks.{held_within}
use Rattle.call_begins.proofs.ReadySeats.{frame_some}
use Rattle.vm_swapper.proofs.slots.is_back_on_free.Goals as goal

pub frame-requires-after_bounds : goal.frame-requires-after_bounds
frame-requires-after_bounds g c κs within =
    held_within c.args.state.now.config c.args.state.now.past c.run_law.ensures.formed c.run_law.ensures.run c.args.page (c.in-Some.f).0
    (frame_some c.in-Some.f (holder c.args.state.now.config (pager c.args.state.now).page c.args.page) (sym c.in-Some.is ∙ ap (λ (z : Backing). z.frame) c.backing.ensures))

pub returns-in-Some : goal.returns-in-Some
returns-in-Some g c =
    c.is_free.ensures
    ∙ (ap (λ (z : FrameState). is state.Free z) (ap (λ (z : Row). z.state) c.frame.ensures ∙ row_state c.args.state.now (c.in-Some.f).0)
    ∙ ap (passes (is_free_frame (pager c.args.state.now)))
    (sym (frame_some c.in-Some.f (holder c.args.state.now.config (pager c.args.state.now).page c.args.page) (sym c.in-Some.is ∙ ap (λ (z : Backing). z.frame) c.backing.ensures))))
