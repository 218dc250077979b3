use Rattle.std.proofs.Common.{◌≡◌, ℕ, ◌<◌, ◌∙◌, ap, length, refl, subst, sym, take, arith}
use Rattle.vm_types.specs.Ring.{filled}
use Rattle.vm_types.specs.declared.config.Config.{Config}
use Rattle.vm_types.specs.declared.config.ProcSpec.{ProcSpec}
use Rattle.vm_state.specs.History.{pager}
use Rattle.pfn_report.specs.Counts.{passed, pins_passed}
use Rattle.pfn_report.proofs.SlotsPassed.{all_filled, all_passed, all_pins_passed, counts_as, extent_is, no_pins_passed, none_passed}
use Rattle.pfn_report.proofs.slots.count_slots.Goals as goal

abbrev none : ProcSpec
none = record { limit = 0; quota = 0; extent = 0; locks = 0 }

pub loop-n-init : goal.loop-n-init
loop-n-init g c =
    let law = c.run_law.ensures in
    record {
      count = refl;
      shares = counts_as c.args.state.now.config.frames _ _ c.args.shares.now c.requires.before (none_passed c.args.state.now.config c.args.state.now.past law.formed law.run (c.args.p).0);
      pins = counts_as c.args.state.now.config.frames _ _ c.args.pins.now c.requires.pins_before (no_pins_passed c.args.state.now.config c.args.state.now.past law.formed law.run (c.args.p).0);
    }

pub count_slot-count-requires-clause-slot : goal.count_slot-count-requires-clause-slot
count_slot-count-requires-clause-slot g c κs within =
    let law = c.run_law.ensures in
    subst (λ (k : ℕ). c.loop-n.n < k)
    (extent_is c.args.state.now.config c.args.state.now.past law.formed law.run (c.args.p).0 c.items.result.now none (c.items.ensures ∙ ap (λ (x : Config). x.procs) c.config.ensures) c.requires.there)
    c.loop-n-test.true

pub returns-clause-filled : goal.returns-clause-filled
returns-clause-filled g c =
    let law = c.run_law.ensures in
    let slots = ((pager c.args.state.now).ring (c.args.p).0).slots in
    let many = extent_is c.args.state.now.config c.args.state.now.past law.formed law.run (c.args.p).0 c.items.result.now none (c.items.ensures ∙ ap (λ (x : Config). x.procs) c.config.ensures) c.requires.there in
    let ends : c.loop-n.n ≡ length slots = omega (arith, many, c.loop-n-test.false, c.loop-n.auto.n-end) in
    c.loop-n.invariant.count ∙ (ap (λ (k : ℕ). filled (take k slots)) ends ∙ all_filled c.args.state.now.config c.args.state.now.past law.formed law.run (c.args.p).0)

pub returns-clause-after : goal.returns-clause-after
returns-clause-after g c =
    let law = c.run_law.ensures in
    let slots = ((pager c.args.state.now).ring (c.args.p).0).slots in
    let many = extent_is c.args.state.now.config c.args.state.now.past law.formed law.run (c.args.p).0 c.items.result.now none (c.items.ensures ∙ ap (λ (x : Config). x.procs) c.config.ensures) c.requires.there in
    let ends : c.loop-n.n ≡ length slots = omega (arith, many, c.loop-n-test.false, c.loop-n.auto.n-end) in
    counts_as c.args.state.now.config.frames _ _ c.loop-n.shares c.loop-n.invariant.shares
    (λ f. sym (ap (λ (k : ℕ). passed (pager c.args.state.now) (c.args.p).0 k f) ends ∙ all_passed c.args.state.now.config c.args.state.now.past law.formed law.run (c.args.p).0 f))

pub returns-clause-pins_after : goal.returns-clause-pins_after
returns-clause-pins_after g c =
    let law = c.run_law.ensures in
    let slots = ((pager c.args.state.now).ring (c.args.p).0).slots in
    let many = extent_is c.args.state.now.config c.args.state.now.past law.formed law.run (c.args.p).0 c.items.result.now none (c.items.ensures ∙ ap (λ (x : Config). x.procs) c.config.ensures) c.requires.there in
    let ends : c.loop-n.n ≡ length slots = omega (arith, many, c.loop-n-test.false, c.loop-n.auto.n-end) in
    counts_as c.args.state.now.config.frames _ _ c.loop-n.pins c.loop-n.invariant.pins
    (λ f. sym (ap (λ (k : ℕ). pins_passed (pager c.args.state.now) (c.args.p).0 k f) ends ∙ all_pins_passed c.args.state.now.config c.args.state.now.past law.formed law.run (c.args.p).0 f))
