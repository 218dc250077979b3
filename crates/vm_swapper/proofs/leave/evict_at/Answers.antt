use Rattle.std.proofs.Common.{ap, refl, sym, ◌∙◌}
use Rattle.pfn_database.specs.declared.row.Row.{Row}
use Rattle.pager_model.specs.Evict.{evicted_to}
use Rattle.pager_policy.specs.Swap.{swap_in_flight, swap_modified_full}
use Rattle.call_begins.proofs.Rows.{row_goes}
use Rattle.vm_swapper.proofs.Leaves.{evicts, may_evict, none_seen, stops}
use Rattle.vm_swapper.proofs.Makes.{goes_on, waits}
use Rattle.vm_swapper.proofs.leave.evict_at.Goals as goal

pub is_stopped-requires-after_bounds : goal.is_stopped-requires-after_bounds
is_stopped-requires-after_bounds g c κs within =
    c.goes_to-to.ensures ∙ (ap (λ (z : Row). evicted_to z.shares z.flights z.modify) c.frame-row.ensures ∙ row_goes c.args.state.now ((c.in-Some.x).frame).0)

pub evict-requires-after_bounds : goal.evict-requires-after_bounds
evict-requires-after_bounds g c κs within =
    may_evict c.args.state.now ((c.args.run).p).0 (c.args.run).slot c.in-Some.x c.in-Some.ensures.seen c.goes_to-to.result
    (c.goes_to-to.ensures ∙ (ap (λ (z : Row). evicted_to z.shares z.flights z.modify) c.frame-row.ensures ∙ row_goes c.args.state.now ((c.in-Some.x).frame).0))
    (sym c.is_stopped.ensures ∙ c.if-is_stopped.false) (c.args.run).seat (c.args.run).p c.requires

pub returns-then-is_stopped : goal.returns-then-is_stopped
returns-then-is_stopped g c =
    waits c.args.state.now _ (c.args.run).seat swap_modified_full _ _
    (stops c.args.state.now ((c.args.run).p).0 (c.args.run).slot c.in-Some.x c.in-Some.ensures.seen (sym c.is_stopped.ensures ∙ c.if-is_stopped.true)) refl

pub returns-else-is_stopped : goal.returns-else-is_stopped
returns-else-is_stopped g c =
    goes_on c.args.state.now _ (c.args.run).seat _ _ _
    (evicts c.args.state.now ((c.args.run).p).0 (c.args.run).slot c.in-Some.x c.in-Some.ensures.seen c.goes_to-to.result
    (c.goes_to-to.ensures ∙ (ap (λ (z : Row). evicted_to z.shares z.flights z.modify) c.frame-row.ensures ∙ row_goes c.args.state.now ((c.in-Some.x).frame).0))
    (sym c.is_stopped.ensures ∙ c.if-is_stopped.false))
    c.evict.ensures

pub returns-in-None : goal.returns-in-None
returns-in-None g c = waits c.args.state.now _ (c.args.run).seat swap_in_flight _ _ (none_seen c.args.state.now ((c.args.run).p).0 (c.args.run).slot c.in-None.ensures.seen) refl
