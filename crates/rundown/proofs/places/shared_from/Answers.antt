use Rattle.std.proofs.Common.{◌∙◌, arith, length, sym}
use Rattle.vm_state.specs.History.{pager}
use Rattle.vm_swapper.proofs.Ranges.{find_next}
use Rattle.rundown.proofs.SharedPlaces.{is_in_question}
use Rattle.rundown.proofs.places.shared_from.Goals as goal

pub loop-m-preserved : goal.loop-m-preserved
loop-m-preserved g c =
    c.loop-m.invariant
    ∙ find_next (is_in_question (pager c.args.state.now) (c.args.p).0 c.args.n) c.loop-m.m (length ((pager c.args.state.now).ring (c.args.p).0).slots)
    (let test = c.loop-m-test.true in let count = c.slot_count-m-end.ensures.count in omega (arith, test, count)) (sym c.is_shared_from.ensures ∙ c.if-is_shared_from.false)
