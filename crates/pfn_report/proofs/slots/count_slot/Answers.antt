use Rattle.std.proofs.Common.{◌≡◌, ℕ, ◌+◌, ◌∙◌, cond, get_or, set, subst, sym, arith}
use Rattle.vm_state.specs.History.{pager}
use Rattle.vm_state.proofs.Owed.{byte_is, byte_small}
use Rattle.pfn_report.specs.Counts.{AreFrameCounts, passed, pins_passed}
use Rattle.pfn_report.proofs.SlotsPassed.{counts_as, counts_more, counts_plus, few_passed, few_pins_passed, few_slots, fills_none, fills_one, pins_none, pins_one, shares_none, shares_one, slot_within}
use Rattle.pfn_report.proofs.slots.count_slot.Goals as goal

pub bounds-shares-slot : goal.bounds-shares-slot
bounds-shares-slot g c =
    let law = c.run_law.ensures in
    let within = slot_within c.args.state.now.config c.args.state.now.past law.formed law.run (c.args.p).0 c.args.n c.requires.slot c.in-Some.slot c.in-Some.ensures in
    omega (arith, within, c.requires.before.size)

pub overflow_add-shares : goal.overflow_add-shares
overflow_add-shares g c =
    let law = c.run_law.ensures in
    let f : ℕ = ((c.in-Some.slot).frame).0 in
    let within = slot_within c.args.state.now.config c.args.state.now.past law.formed law.run (c.args.p).0 c.args.n c.requires.slot c.in-Some.slot c.in-Some.ensures in
    let few = few_passed c.args.state.now.config c.args.state.now.past law.formed law.run (c.args.p).0 c.args.n f (omega (arith, c.requires.slot)) in
    let slots = few_slots c.args.state.now.config c.args.state.now.past law.formed law.run (c.args.p).0 c.requires.process in
    omega (arith, few, slots, c.requires.slot, c.requires.before.each f within)

pub bounds-shares-slot-in-Some : goal.bounds-shares-slot-in-Some
bounds-shares-slot-in-Some g c =
    let law = c.run_law.ensures in
    let within = slot_within c.args.state.now.config c.args.state.now.past law.formed law.run (c.args.p).0 c.args.n c.requires.slot c.in-Some.slot c.in-Some.ensures in
    omega (arith, within, c.requires.before.size)

pub returns-in-Some-clause-filled : goal.returns-in-Some-clause-filled
returns-in-Some-clause-filled g c =
    let law = c.run_law.ensures in
    sym (fills_one c.args.state.now.config c.args.state.now.past law.formed law.run (c.args.p).0 c.args.n c.requires.slot c.in-Some.slot c.in-Some.ensures)

pub returns-in-Some-clause-after : goal.returns-in-Some-clause-after
returns-in-Some-clause-after g c =
    let law = c.run_law.ensures in
    let a = pager c.args.state.now in
    counts_more c.args.state.now.config.frames ((c.in-Some.slot).frame).0 (passed a (c.args.p).0 c.args.n) _ c.args.shares.now c.requires.before
    (slot_within c.args.state.now.config c.args.state.now.past law.formed law.run (c.args.p).0 c.args.n c.requires.slot c.in-Some.slot c.in-Some.ensures)
    (shares_one c.args.state.now.config c.args.state.now.past law.formed law.run (c.args.p).0 c.args.n c.requires.slot c.in-Some.slot c.in-Some.ensures)

pub returns-in-None-clause-filled : goal.returns-in-None-clause-filled
returns-in-None-clause-filled g c =
    let law = c.run_law.ensures in
    let same = fills_none c.args.state.now.config c.args.state.now.past law.formed law.run (c.args.p).0 c.args.n c.requires.slot c.in-None.ensures in
    omega (arith, same)

pub returns-in-None-clause-after : goal.returns-in-None-clause-after
returns-in-None-clause-after g c =
    let law = c.run_law.ensures in
    counts_as c.args.state.now.config.frames (passed (pager c.args.state.now) (c.args.p).0 c.args.n) _ c.args.shares.now c.requires.before
    (shares_none c.args.state.now.config c.args.state.now.past law.formed law.run (c.args.p).0 c.args.n c.requires.slot c.in-None.ensures)

-- ---- the pins beside the shares
pub bounds-pins-slot : goal.bounds-pins-slot
bounds-pins-slot g c =
    let law = c.run_law.ensures in
    let within = slot_within c.args.state.now.config c.args.state.now.past law.formed law.run (c.args.p).0 c.args.n c.requires.slot c.in-Some.slot c.in-Some.ensures in
    omega (arith, within, c.requires.pins_before.size)

pub bounds-pins-slot-in-Some : goal.bounds-pins-slot-in-Some
bounds-pins-slot-in-Some g c =
    let law = c.run_law.ensures in
    let within = slot_within c.args.state.now.config c.args.state.now.past law.formed law.run (c.args.p).0 c.args.n c.requires.slot c.in-Some.slot c.in-Some.ensures in
    omega (arith, within, c.requires.pins_before.size)

pub overflow_add-pins : goal.overflow_add-pins
overflow_add-pins g c =
    let law = c.run_law.ensures in
    let f : ℕ = ((c.in-Some.slot).frame).0 in
    let within = slot_within c.args.state.now.config c.args.state.now.past law.formed law.run (c.args.p).0 c.args.n c.requires.slot c.in-Some.slot c.in-Some.ensures in
    let few = few_pins_passed c.args.state.now.config c.args.state.now.past law.formed law.run (c.args.p).0 c.args.n f (omega (arith, c.requires.slot)) in
    let slots = few_slots c.args.state.now.config c.args.state.now.past law.formed law.run (c.args.p).0 c.requires.process in
    omega (arith, few, slots, c.requires.slot, c.requires.pins_before.each f within, c.from.ensures, byte_small (c.in-Some.slot).pinned)

pub returns-in-Some-clause-pins_after : goal.returns-in-Some-clause-pins_after
returns-in-Some-clause-pins_after g c =
    let law = c.run_law.ensures in
    let a = pager c.args.state.now in
    let f : ℕ = ((c.in-Some.slot).frame).0 in
    let more : c.from.result ≡ cond (c.in-Some.slot).pinned 1 0 = c.from.ensures ∙ byte_is (c.in-Some.slot).pinned in
    subst (λ (n : ℕ). AreFrameCounts c.args.state.now.config.frames (pins_passed a (c.args.p).0 (c.args.n + 1)) (set c.args.pins.now f (get_or c.args.pins.now f 0 + n))) (sym more)
    (counts_plus c.args.state.now.config.frames f (c.in-Some.slot).pinned (pins_passed a (c.args.p).0 c.args.n) _ c.args.pins.now c.requires.pins_before
    (slot_within c.args.state.now.config c.args.state.now.past law.formed law.run (c.args.p).0 c.args.n c.requires.slot c.in-Some.slot c.in-Some.ensures)
    (pins_one c.args.state.now.config c.args.state.now.past law.formed law.run (c.args.p).0 c.args.n c.requires.slot c.in-Some.slot c.in-Some.ensures))

pub returns-in-None-clause-pins_after : goal.returns-in-None-clause-pins_after
returns-in-None-clause-pins_after g c =
    let law = c.run_law.ensures in
    counts_as c.args.state.now.config.frames (pins_passed (pager c.args.state.now) (c.args.p).0 c.args.n) _ c.args.pins.now c.requires.pins_before
    (pins_none c.args.state.now.config c.args.state.now.past law.formed law.run (c.args.p).0 c.args.n c.requires.slot c.in-None.ensures)
