use Rattle.std.proofs.Common.{Bool, ◌+◌, ◌-◌, ◌/◌, sym, ap, ◌∙◌}
use Rattle.std.specs.Prelude.{◌||◌}
use Rattle.std.specs.List.{list_any, range_with_len}
use Rattle.vm_types.specs.declared.limits.TheConstants.{PAGE_BYTES}
use Rattle.pager_model.specs.MappedRanges.{is_unmapped_at}
use Rattle.vm_state.specs.History.{pager}
use Rattle.state_pages.proofs.RangeSteps.{any_step}
use Rattle.vm_services.proofs.ranges.is_unmapped.Goals as goal

pub loop-n-preserved : goal.loop-n-preserved
loop-n-preserved g c =
    c.loop-n.invariant
    ∙ any_step (is_unmapped_at (pager c.args.state.now) c.args.p.0) (c.args.at.0 / PAGE_BYTES) c.loop-n.n c.args.pages c.loop-n-test.true
    ∙ ap (λ (b : Bool). b || list_any (is_unmapped_at (pager c.args.state.now) c.args.p.0) (range_with_len (c.args.at.0 / PAGE_BYTES + (c.loop-n.n + 1)) (c.args.pages - (c.loop-n.n + 1)))) (sym c.is_unmapped_at.ensures ∙ c.if-is_unmapped_at.false)
