use Rattle.std.proofs.Common.{◌≡◌, ◌∙◌, List, ap, length, arith}
use Rattle.vm_types.specs.declared.config.Config.{Config}
use Rattle.vm_types.specs.declared.config.ProcSpec.{ProcSpec}
use Rattle.seat_schedules.proofs.FirstWorkers.{first_at_work}
use Rattle.seat_schedules.proofs.worker.all_workers.Goals as goal

pub returns : goal.returns
returns g c =
    first_at_work c.args.state.now c.loop-s.workers.items c.loop-s.s c.requires.first
    (let end = c.loop-s.auto.s-end in let past = c.loop-s-test.false in let few = c.run_law.ensures.formed.some_process.1 in
    let many : length c.items.result.now ≡ length c.args.state.now.config.procs = ap (λ (xs : List ProcSpec). length xs) c.items.ensures ∙ ap (λ (k : Config). length k.procs) c.config.ensures in
    omega (arith, end, past, few, many)) c.loop-s.invariant
