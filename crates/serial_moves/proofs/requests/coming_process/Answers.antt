use Rattle.std.proofs.Common.{ℕ, ◌∙◌, ap, arith, length, sym}
use Rattle.vm_types.specs.Status.{is_coming}
use Rattle.vm_state.specs.History.{pager}
use Rattle.vm_swapper.proofs.Ranges.{find_next}
use Rattle.serial_moves.proofs.requests.coming_process.Goals as goal

pub loop-q-preserved : goal.loop-q-preserved
loop-q-preserved g c =
    c.loop-q.invariant
    ∙ find_next (λ (q : ℕ). is_coming ((pager c.args.state.now).status q)) c.loop-q.q (length c.args.state.now.config.procs)
    (let test = c.loop-q-test.true in let count = c.processes-q-end.ensures.count in omega (arith, test, count)) (ap is_coming (sym c.status.ensures) ∙ (sym c.is_coming.ensures ∙ c.if-is_coming.false))
