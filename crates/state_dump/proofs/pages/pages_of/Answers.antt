use Rattle.std.proofs.Common.{◌∙◌, ℕ, List, ◌++◌, ap, subst, sym, take_all, arith}
use Rattle.pager_model.specs.Around.{past_view}
use Rattle.pager_model.specs.Lookups.{slot_of}
use Rattle.pager_laws.proofs.RunsAreSound.{run_kept}
use Rattle.std.specs.Prelude.{slice_get}
use Rattle.std.specs.List.Sorted.{IsPermutation}
use Rattle.vm_state.specs.History.{pager}
use Rattle.dump_laws.proofs.Entries.{pages_in}
use Rattle.state_dump.specs.Slots.{page_in}
use Rattle.state_dump.proofs.SlotsShown.{one_page_more, sorted_pages}
use Rattle.state_dump.proofs.pages.pages_of.Goals as goal

pub loop-n-preserved : goal.loop-n-preserved
loop-n-preserved g c =
    let slots = ((pager c.args.state.now).ring (c.args.p).0).slots in
    let less = c.loop-n-test.true in
    let count = c.requires.slots in
    c.in_ok-push_page.ensures
    ∙ (ap (λ (vs : List ℕ). vs ++ page_in (slot_of (slice_get slots c.loop-n.n))) c.loop-n.invariant
    ∙ sym (one_page_more slots c.loop-n.n (omega (arith, less, count))))

pub returns : goal.returns
returns g c =
    let law = c.run_law.ensures in
    let s = c.args.state.now in
    let slots = ((pager s).ring (c.args.p).0).slots in
    let last = c.loop-n-test.false in
    let count = c.requires.slots in
    let all = c.loop-n.invariant ∙ ap pages_in (take_all c.loop-n.n slots (omega (arith, last, count))) in
    sorted_pages s.config (past_view s.past) (pager s) (run_kept s.config s.past law.formed law.run) (c.args.p).0 _
    (subst (λ (vs : List ℕ). IsPermutation vs c.sort_unstable.new.self.items) all c.sort_unstable.ensures.permutation) c.sort_unstable.ensures.sorted
