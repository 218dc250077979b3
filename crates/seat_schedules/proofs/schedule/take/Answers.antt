use Rattle.std.proofs.Common.{[], ap, ◌∙◌, arith}
use Rattle.pager_policy.specs.Given.{made_by}
use Rattle.vm_state.specs.History.{History}
use Rattle.seat_schedules.proofs.WorkersTogether.{respared_all, worked_all, worker_at}
use Rattle.seat_schedules.proofs.schedule.take.Goals as goal

pub returns-then-seat-workers-clause-at_work : goal.returns-then-seat-workers-clause-at_work
returns-then-seat-workers-clause-at_work g c = respared_all c.args.state.now c.reserve.new.self c.args.workers.now c.reserve.ensures.same c.requires

pub work-went-requires-clause-at_work : goal.work-went-requires-clause-at_work
work-went-requires-clause-at_work g c κs within =
    worker_at c.reserve.new.self c.args.workers.now (c.args.seat).0 c.index-workers-seat.result (respared_all c.args.state.now c.reserve.new.self c.args.workers.now c.reserve.ensures.same c.requires)
    (let outside = c.if-seat-workers.false in omega (arith, outside))

pub returns-clause-at_work : goal.returns-clause-at_work
returns-clause-at_work g c =
    worked_all c.reserve.new.self c.work-went.new.state c.args.workers.now (c.args.seat).0 c.work-went.new.worker (respared_all c.args.state.now c.reserve.new.self c.args.workers.now c.reserve.ensures.same c.requires)
    (let outside = c.if-seat-workers.false in omega (arith, outside)) c.run_law.ensures.formed c.run_law.ensures.run c.work-went.ensures

pub returns-then-seat-workers-clause-made : goal.returns-then-seat-workers-clause-made
returns-then-seat-workers-clause-made g c = ([], ap (λ (x : History). x.past) c.reserve.ensures.same)

pub returns-clause-made : goal.returns-clause-made
returns-clause-made g c = (
  c.work-went.ensures.made,
  c.work-went.ensures.past ∙ ap (λ (x : History). made_by (c.args.seat).0 c.work-went.ensures.made x.past) c.reserve.ensures.same,
)
