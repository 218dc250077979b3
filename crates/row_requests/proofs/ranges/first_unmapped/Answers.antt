use Rattle.std.proofs.Common.{◌≡◌, ℕ, ◌/◌, Some}
use Rattle.vm_types.specs.declared.limits.TheConstants.{PAGE_BYTES}
use Rattle.vm_types.specs.declared.names.Page.{Page}
use Rattle.pager_model.specs.Lookups.{page_by}
use Rattle.shadow_pager.specs.Shown.{shown}
use Rattle.row_requests.proofs.Places.{one_more}
use Rattle.row_requests.proofs.ranges.first_unmapped.Goals as goal

pub loop-n-preserved : goal.loop-n-preserved
loop-n-preserved c =
    one_more (λ (v : ℕ). (g : Page) × (page_by c.args.config.now (shown c.args.pager.now).pager.map c.args.range.process.0 v ≡ Some g)) (c.args.range.at.0 / PAGE_BYTES) c.loop-n.n c.loop-n.invariant
    (c.is_unmapped_at.ensures.no c.if-is_unmapped_at.false)
