use Rattle.std.proofs.Common.{ap, refl}
use Rattle.history_lock.specs.Passes.{numbers, seen, view}
use Rattle.history_lock.specs.declared.view.View.{View}
use Rattle.vm_state.specs.declared.base.StateBase.{StateBase}
use Rattle.replay_run.proofs.Making.{contains_one}
use Rattle.replay_run.proofs.WorkersDone.{idle_done}
use Rattle.replay_run.proofs.working.idle.Goals as goal

pub idle_worker-requires-clause-number : goal.idle_worker-requires-clause-number
idle_worker-requires-clause-number g c κs within = contains_one ((c.args.job.carrier.seat).0) (numbers c.args.job.pass) (ap (λ (v : View StateBase). v.numbers) c.requires.1.job.fresh.views)

pub returns : goal.returns
returns g c = record {
  same = c.idle_worker.ensures.same;
  idle = c.idle_worker.ensures.idle;
  owns = c.idle_worker.ensures.numbers;
  stands = c.idle_worker.ensures.base;
  landed = c.idle_worker.ensures.landed;
  calm = c.idle_worker.ensures.calm;
  done = λ sufficed.
      let is = c.requires.1 in
      idle_done is.base ((c.args.job.carrier.seat).0) (view c.args.job.pass) is.job.fresh.views c.args.doing c.requires.0 c.args.job.carrier.seat refl is.may (seen c.idle_worker.result.pass) c.idle_worker.ensures.silent (c.idle_worker.ensures.answered sufficed) (c.idle_worker.ensures.done sufficed) c.idle_worker.ensures.turns;
}
