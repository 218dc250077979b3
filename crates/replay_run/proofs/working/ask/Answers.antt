use Rattle.std.proofs.Common.{◌∙◌, ap}
use Rattle.vm_types.specs.declared.names.Seat.{Seat}
use Rattle.history_lock.specs.Passes.{seen, view}
use Rattle.replay_run.proofs.WorkersDone.{all_left, all_may_ask, calm_first, process_done}
use Rattle.replay_run.proofs.working.ask.Goals as goal

pub process_worker-requires-clause-knows : goal.process_worker-requires-clause-knows
process_worker-requires-clause-knows g c κs within =
    all_may_ask c.requires.base ((c.args.job.carrier.seat).0) (view c.args.job.pass) c.requires.job.fresh.views c.requires.playable _ (ap (λ (s : Seat). s.0) c.seat.ensures) c.requires.may c.deref.result.now (c.deref.ensures.value ∙ c.requires.job.asks)

pub returns : goal.returns
returns g c = record {
  same = c.process_worker.ensures.same;
  idle = c.process_worker.ensures.idle;
  owns = c.process_worker.ensures.numbers;
  stands = c.process_worker.ensures.base;
  landed = c.process_worker.ensures.landed;
  calm = c.process_worker.ensures.calm (λ none. calm_first c.requires.base ((c.args.job.carrier.seat).0) (view c.args.job.pass) c.requires.job.fresh.views);
  done = λ sufficed. process_done c.requires.base ((c.args.job.carrier.seat).0) (view c.args.job.pass) c.requires.job.fresh.views (seen c.process_worker.result.pass) c.deref.result.now c.requires.may (c.deref.ensures.value ∙ c.requires.job.asks) (c.process_worker.ensures.all sufficed) _ (ap (λ (s : Seat). s.0) c.seat.ensures)
      (c.process_worker.ensures.turns (all_left c.requires.base ((c.args.job.carrier.seat).0) (view c.args.job.pass) c.requires.job.fresh.views _ (ap (λ (s : Seat). s.0) c.seat.ensures) c.deref.result.now (c.deref.ensures.value ∙ c.requires.job.asks)));
}
