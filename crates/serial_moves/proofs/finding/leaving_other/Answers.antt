use Rattle.std.proofs.Common.{◌∙◌, arith, length, sym}
use Rattle.vm_state.specs.History.{pager}
use Rattle.vm_swapper.proofs.Ranges.{find_next}
use Rattle.serial_moves.specs.Finders.{is_other_leaving}
use Rattle.serial_moves.proofs.FoundFrames.{find_end, find_here}
use Rattle.serial_moves.proofs.finding.leaving_other.Goals as goal

pub loop-n-preserved : goal.loop-n-preserved
loop-n-preserved g c =
    c.loop-n.invariant
    ∙ find_next (is_other_leaving (pager c.args.state.now) (c.args.p).0) c.loop-n.n (length c.args.state.now.config.procs)
    (let test = c.loop-n-test.true in let count = c.processes-n-end.ensures.count in omega (arith, test, count)) (sym c.is_other_leaving.ensures ∙ c.if-is_other_leaving.false)

pub returns-then-is_other_leaving : goal.returns-then-is_other_leaving
returns-then-is_other_leaving g c =
    sym (c.loop-n.invariant
    ∙ find_here (is_other_leaving (pager c.args.state.now) (c.args.p).0) c.loop-n.n (length c.args.state.now.config.procs)
    (let test = c.loop-n-test.true in let count = c.processes-n-end.ensures.count in omega (arith, test, count)) (sym c.is_other_leaving.ensures ∙ c.if-is_other_leaving.true))

pub returns : goal.returns
returns g c =
    sym (c.loop-n.invariant
    ∙ find_end (is_other_leaving (pager c.args.state.now) (c.args.p).0) c.loop-n.n (length c.args.state.now.config.procs)
    (let test = c.loop-n-test.false in let count = c.processes-n-end.ensures.count in omega (arith, test, count)))
