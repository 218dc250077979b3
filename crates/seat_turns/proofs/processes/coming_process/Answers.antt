use Rattle.std.proofs.Common.{◌∙◌, ℕ, ap, arith, length, sym}
use Rattle.vm_types.specs.Status.{is_coming}
use Rattle.vm_state.specs.History.{pager}
use Rattle.vm_swapper.proofs.Ranges.{find_next}
use Rattle.seat_turns.proofs.Searches.{find_end, find_here, is_coming_there}
use Rattle.seat_turns.proofs.processes.coming_process.Goals as goal

pub loop-n-preserved : goal.loop-n-preserved
loop-n-preserved g c =
    c.loop-n.invariant
    ∙ find_next (λ (q : ℕ). is_coming ((pager c.args.state.now).status q)) c.loop-n.n (length c.args.state.now.config.procs)
    (let test = c.loop-n-test.true in let count = c.processes-n-end.ensures.count in omega (arith, test, count)) (ap is_coming (sym c.status.ensures) ∙ sym c.is_coming.ensures ∙ c.if-is_coming.false)

pub returns-then-is_coming-clause-found : goal.returns-then-is_coming-clause-found
returns-then-is_coming-clause-found g c =
    sym (c.loop-n.invariant
    ∙ find_here (λ (q : ℕ). is_coming ((pager c.args.state.now).status q)) c.loop-n.n (length c.args.state.now.config.procs)
    (let test = c.loop-n-test.true in let count = c.processes-n-end.ensures.count in omega (arith, test, count)) (ap is_coming (sym c.status.ensures) ∙ sym c.is_coming.ensures ∙ c.if-is_coming.true))

pub returns-then-is_coming-clause-there : goal.returns-then-is_coming-clause-there
returns-then-is_coming-clause-there g c = let test = c.loop-n-test.true in let count = c.processes-n-end.ensures.count in omega (arith, test, count)

pub returns-then-is_coming-clause-coming : goal.returns-then-is_coming-clause-coming
returns-then-is_coming-clause-coming g c = is_coming_there ((pager c.args.state.now).status c.loop-n.n) (ap is_coming (sym c.status.ensures) ∙ sym c.is_coming.ensures ∙ c.if-is_coming.true)

pub returns-clause-found : goal.returns-clause-found
returns-clause-found g c =
    sym (c.loop-n.invariant
    ∙ find_end (λ (q : ℕ). is_coming ((pager c.args.state.now).status q)) c.loop-n.n (length c.args.state.now.config.procs)
    (let test = c.loop-n-test.false in let count = c.processes-n-end.ensures.count in omega (arith, test, count)))
