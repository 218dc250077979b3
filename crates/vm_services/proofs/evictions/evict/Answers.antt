use Rattle.std.proofs.Common.{sym, ap, ◌∙◌, arith}
use Rattle.pfn_database.specs.declared.row.Row.{Row}
use Rattle.vm_journal.specs.declared.entry.What.TheVariants as what
use Rattle.pager_model.specs.Evict.{evicted_to}
use Rattle.pager_policy.specs.Given.{page_address}
use Rattle.pager_model.specs.Maps.{proc}
use Rattle.pager_policy.specs.Serve.{serve_modified_full}
use Rattle.call_begins.proofs.Rows.{row_goes}
use Rattle.vm_services.proofs.OneEviction.{evicts, frame_within, may_evict, page_small, stops}
use Rattle.vm_services.proofs.Steps.{goes_on, waits}
use Rattle.vm_services.proofs.evictions.evict.Goals as goal

pub frame-row-requires-after_bounds : goal.frame-row-requires-after_bounds
frame-row-requires-after_bounds g c κs within = frame_within c.args.state.now c.args.seat c.args.vpn c.args.why c.requires.ready c.in-Some.f c.in-Some.ensures

pub is_stopped-requires-after_bounds : goal.is_stopped-requires-after_bounds
is_stopped-requires-after_bounds g c κs within =
    c.goes_to-to.ensures ∙ (ap (λ (z : Row). evicted_to z.shares z.flights z.modify) c.frame-row.ensures ∙ row_goes c.args.state.now (c.in-Some.f).0)

pub overflow_mul-a : goal.overflow_mul-a
overflow_mul-a g c = let small = page_small c.args.state.now c.args.seat c.args.vpn c.args.why c.requires.ready c.in-Some.f c.in-Some.ensures in omega (arith, small)

pub evict-requires-after_bounds : goal.evict-requires-after_bounds
evict-requires-after_bounds g c κs within =
    may_evict c.args.state.now c.args.seat c.args.vpn c.args.why c.requires.ready c.in-Some.f c.in-Some.ensures
    c.goes_to-to.result (c.goes_to-to.ensures ∙ (ap (λ (z : Row). evicted_to z.shares z.flights z.modify) c.frame-row.ensures ∙ row_goes c.args.state.now (c.in-Some.f).0))
    (sym c.is_stopped.ensures ∙ c.if-is_stopped.false) c.requires

pub returns-then-is_stopped : goal.returns-then-is_stopped
returns-then-is_stopped g c =
    waits c.args.state.now c.args.seat serve_modified_full _
    (stops c.args.state.now c.args.seat c.args.vpn c.args.why c.requires.ready c.in-Some.f c.in-Some.ensures (sym c.is_stopped.ensures ∙ c.if-is_stopped.true))

pub returns-else-is_stopped : goal.returns-else-is_stopped
returns-else-is_stopped g c =
    goes_on c.args.state.now _ c.args.seat (what.Evict (proc (c.args.seat).0) (page_address c.args.vpn) c.in-Some.f c.args.why c.goes_to-to.result) _
    (evicts c.args.state.now c.args.seat c.args.vpn c.args.why c.requires.ready c.in-Some.f c.in-Some.ensures
    c.goes_to-to.result (c.goes_to-to.ensures ∙ (ap (λ (z : Row). evicted_to z.shares z.flights z.modify) c.frame-row.ensures ∙ row_goes c.args.state.now (c.in-Some.f).0))
    (sym c.is_stopped.ensures ∙ c.if-is_stopped.false)) c.evict.ensures
