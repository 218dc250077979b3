use Rattle.std.proofs.Common.{◌∙◌, arith, length, sym}
use Rattle.vm_state.specs.History.{pager}
use Rattle.vm_swapper.specs.Looks.{has}
use Rattle.vm_swapper.proofs.Ranges.{find_next}
use Rattle.vm_swapper.proofs.looks.first.Goals as goal

pub loop-n-preserved : goal.loop-n-preserved
loop-n-preserved g c =
    c.loop-n.invariant
    ∙ find_next (has c.args.state.now.config c.args.state.now.past (pager c.args.state.now) (c.args.p).0 c.args.look) c.loop-n.n (length ((pager c.args.state.now).ring (c.args.p).0).slots)
    (let test = c.loop-n-test.true in let count = c.slot_count-n-end.ensures.count in omega (arith, test, count)) (sym c.has.ensures ∙ c.if-has.false)
