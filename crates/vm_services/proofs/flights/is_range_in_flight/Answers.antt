use Rattle.std.proofs.Common.{Bool, ◌||◌, ◌+◌, ◌-◌, ◌/◌, sym, ap, ◌∙◌}
use Rattle.std.specs.List.{list_any, range_with_len}
use Rattle.vm_types.specs.declared.limits.TheConstants.{PAGE_BYTES}
use Rattle.vm_state.specs.History.{pager}
use Rattle.state_pages.proofs.RangeSteps.{any_step}
use Rattle.vm_services.specs.OwnFlights.{is_own_in_flight}
use Rattle.vm_services.proofs.RangeTests.{flies_from}
use Rattle.vm_services.proofs.flights.is_range_in_flight.Goals as goal

pub loop-n-init : goal.loop-n-init
loop-n-init g c = flies_from c.args.state.now.config c.args.state.now.past (pager c.args.state.now) (c.args.p).0 (c.args.at).0 c.args.pages

pub loop-n-preserved : goal.loop-n-preserved
loop-n-preserved g c =
    c.loop-n.invariant
    ∙ any_step (is_own_in_flight c.args.state.now.config c.args.state.now.past (pager c.args.state.now) c.args.p.0) (c.args.at.0 / PAGE_BYTES) c.loop-n.n c.args.pages c.loop-n-test.true
    ∙ ap (λ (b : Bool). b || list_any (is_own_in_flight c.args.state.now.config c.args.state.now.past (pager c.args.state.now) c.args.p.0) (range_with_len (c.args.at.0 / PAGE_BYTES + (c.loop-n.n + 1)) (c.args.pages - (c.loop-n.n + 1)))) (sym c.is_own_in_flight.ensures ∙ c.if-is_own_in_flight.false)
