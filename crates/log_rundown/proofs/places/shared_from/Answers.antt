use Rattle.std.proofs.Common.{◌∙◌, arith, length, sym}
use Rattle.shadow_pager.specs.Shown.{shown}
use Rattle.log_rundown.proofs.Ranges.{find_next}
use Rattle.log_rundown.proofs.SharedPlaces.{is_in_question}
use Rattle.log_rundown.proofs.places.shared_from.Goals as goal

pub loop-m-preserved : goal.loop-m-preserved
loop-m-preserved c =
    c.loop-m.invariant
    ∙ find_next (is_in_question (shown c.args.pager.now).pager (c.args.p).0 c.args.n) c.loop-m.m (length ((shown c.args.pager.now).pager.ring (c.args.p).0).slots)
    (let test = c.loop-m-test.true in let count = c.slots_of-m-end.ensures.count in omega (arith, test, count)) (sym c.is_shared_from.ensures ∙ c.if-is_shared_from.false)
