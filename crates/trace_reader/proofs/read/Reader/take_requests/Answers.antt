use Rattle.std.proofs.Common.{sym, subst, Result, List, ℕ, Bor}
use Rattle.std.specs.Prelude.{IfErr}
use Rattle.std.proofs.lemmas.Result.{err_from_is_err_and}
use Rattle.vm_types.specs.declared.faults.NoMemory.{NoMemory}
use Rattle.trace_reader.specs.Stream.{IsOpenFront}
use Rattle.trace_reader.proofs.Pieces.{take_request, no_room}
use Rattle.trace_reader.proofs.read.Reader.take_requests.Goals as goal

pub returns-in_err-ask-clause-err : goal.returns-in_err-ask-clause-err
returns-in_err-ask-clause-err c =
    let p = err_from_is_err_and c.from_residual.result c.from_residual.ensures.1 in
    subst (λ (r : Result (Bor (List ℕ)) NoMemory). IfErr r (λ e. IsOpenFront c.args.self.now.draft.part c.args.self.now.number c.args.text.now)) (sym p.1)
    (no_room c.args.self.now.draft.part c.args.self.now.number c.args.text.now c.loop-task.self.draft c.loop-task.self.number c.loop-task.rest.now c.in-Some.after.now c.in-Some.task c.loop-task.invariant c.in-Some.ensures)

pub loop-task-preserved : goal.loop-task-preserved
loop-task-preserved c =
    take_request c.args.self.now.draft.part c.args.self.now.number c.args.text.now c.loop-task.self.draft c.loop-task.self.number c.loop-task.rest.now c.in-Some.after.now c.in-Some.task c.ask.new.self
    c.loop-task.invariant c.in-Some.ensures c.in_ok-ask.ensures.part c.in_ok-ask.ensures.seen
