use Rattle.std.proofs.Common.{refl, sym, ap, ◌∙◌, arith}
use Rattle.pfn_database.specs.declared.row.Row.{Row}
use Rattle.vm_journal.specs.declared.entry.EvictWhy.TheVariants as evict
use Rattle.vm_journal.specs.declared.entry.What.TheVariants as what
use Rattle.pager_policy.specs.Advance.{again_modified_full}
use Rattle.pager_model.specs.Evict.{evicted_to, victim_of}
use Rattle.pager_policy.specs.Given.{page_address}
use Rattle.pager_model.specs.Maps.{proc}
use Rattle.vm_state.specs.History.{pager}
use Rattle.vm_state.specs.ProcessReadings.{slot_in}
use Rattle.call_begins.proofs.Rows.{row_goes}
use Rattle.fault_core.proofs.Replaces.{may_replace, none_seen, replaces, slot_small, slot_within, stops}
use Rattle.fault_core.proofs.Steps.{goes_on, waits}
use Rattle.fault_core.proofs.waits.replace.Goals as goal

pub frame-row-requires-after_bounds : goal.frame-row-requires-after_bounds
frame-row-requires-after_bounds g c κs within =
    slot_within c.args.state.now c.args.seat c.requires.ready c.in-Some.slot (c.in-Some.ensures ∙ ap (slot_in (pager c.args.state.now) (c.args.seat).0) (c.victim_of-n.ensures ∙ ap victim_of c.choice-choice.ensures))

pub is_stopped-requires-after_bounds : goal.is_stopped-requires-after_bounds
is_stopped-requires-after_bounds g c κs within =
    c.goes_to-to.ensures ∙ (ap (λ (z : Row). evicted_to z.shares z.flights z.modify) c.frame-row.ensures ∙ row_goes c.args.state.now ((c.in-Some.slot).frame).0)

pub overflow_mul-a : goal.overflow_mul-a
overflow_mul-a g c =
    let small = slot_small c.args.state.now c.args.seat c.requires.ready c.in-Some.slot (c.in-Some.ensures ∙ ap (slot_in (pager c.args.state.now) (c.args.seat).0) (c.victim_of-n.ensures ∙ ap victim_of c.choice-choice.ensures)) in
    omega (arith, small)

pub evict-requires-after_bounds : goal.evict-requires-after_bounds
evict-requires-after_bounds g c κs within =
    may_replace c.args.state.now c.args.seat c.requires.ready c.in-Some.slot (c.in-Some.ensures ∙ ap (slot_in (pager c.args.state.now) (c.args.seat).0) (c.victim_of-n.ensures ∙ ap victim_of c.choice-choice.ensures))
    c.goes_to-to.result (c.goes_to-to.ensures ∙ (ap (λ (z : Row). evicted_to z.shares z.flights z.modify) c.frame-row.ensures ∙ row_goes c.args.state.now ((c.in-Some.slot).frame).0))
    (sym c.is_stopped.ensures ∙ c.if-is_stopped.false) c.requires.may

pub returns-then-is_stopped : goal.returns-then-is_stopped
returns-then-is_stopped g c =
    waits c.args.state.now c.args.seat c.args.r again_modified_full _ _
    (stops c.args.state.now c.args.seat c.requires.ready c.in-Some.slot (c.in-Some.ensures ∙ ap (slot_in (pager c.args.state.now) (c.args.seat).0) (c.victim_of-n.ensures ∙ ap victim_of c.choice-choice.ensures))
    (sym c.is_stopped.ensures ∙ c.if-is_stopped.true))

pub returns-else-is_stopped : goal.returns-else-is_stopped
returns-else-is_stopped g c =
    goes_on c.args.state.now _ c.args.seat c.args.r (what.Evict (proc (c.args.seat).0) (page_address (c.in-Some.slot).vpn) (c.in-Some.slot).frame evict.Replace c.goes_to-to.result) _ _
    (replaces c.args.state.now c.args.seat c.requires.ready c.in-Some.slot (c.in-Some.ensures ∙ ap (slot_in (pager c.args.state.now) (c.args.seat).0) (c.victim_of-n.ensures ∙ ap victim_of c.choice-choice.ensures))
    c.goes_to-to.result (c.goes_to-to.ensures ∙ (ap (λ (z : Row). evicted_to z.shares z.flights z.modify) c.frame-row.ensures ∙ row_goes c.args.state.now ((c.in-Some.slot).frame).0))
    (sym c.is_stopped.ensures ∙ c.if-is_stopped.false)) refl c.evict.ensures

pub returns-in-None : goal.returns-in-None
returns-in-None g c =
    waits c.args.state.now c.args.seat c.args.r again_modified_full _ _
    (none_seen c.args.state.now c.args.seat c.requires.ready (c.in-None.ensures ∙ ap (slot_in (pager c.args.state.now) (c.args.seat).0) (c.victim_of-n.ensures ∙ ap victim_of c.choice-choice.ensures)))
