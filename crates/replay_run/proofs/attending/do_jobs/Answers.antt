use Rattle.std.proofs.Common.{rules, ◌≡◌, ℕ, ◌+◌, length, subst, arith}
use Rattle.history_lock.proofs.Places.{pushed, still_there}
use Rattle.vm_state.specs.Based.{base_of}
use Rattle.replay_run.specs.Jobs.{IsFresh}
use Rattle.replay_run.proofs.Making.{one_less}
use Rattle.replay_run.specs.Workers.{IsWorker}
use Rattle.replay_run.specs.declared.starting.Started.{Started}
use Rattle.replay_run.proofs.Handing.{last_job}
use Rattle.replay_run.proofs.attending.do_jobs.Goals as goal

pub start_one-requires-after_bounds : goal.start_one-requires-after_bounds
start_one-requires-after_bounds g c κs within = record {
  base = base_of c.args.of.now.value;
  playable = c.requires.jobs.playable;
  job = (last_job c.args.lock.now (base_of c.args.of.now.value) (c.args.procs + 2) c.pop.new.self.items c.loop-job.jobs.items c.in-Some.job c.in-Some.ensures.items c.loop-job.invariant.jobs).0;
  may = c.requires.jobs.processes;
}

pub loop-job-preserved : goal.loop-job-preserved
loop-job-preserved g c =
    let inv = c.loop-job.invariant in
    let popped = c.in-Some.ensures.items in
    let mine = last_job c.args.lock.now (base_of c.args.of.now.value) (c.args.procs + 2) c.pop.new.self.items c.loop-job.jobs.items c.in-Some.job popped inv.jobs in
    let fewer : length c.loop-job.jobs.items ≡ length c.pop.new.self.items + 1 = one_less c.pop.new.self.items c.loop-job.jobs.items c.in-Some.job popped in
    let more : length c.push_reserved.new.self.items ≡ length c.loop-job.started.items + 1 = one_less c.loop-job.started.items c.push_reserved.new.self.items _ c.push_reserved.ensures.items in
    let all = inv.all in
    let seat = mine.1 in
    let place : (c.in-Some.job.carrier.seat).0 ≡ length c.loop-job.started.items = omega (arith, seat, fewer, all) in
    record {
      jobs = λ i job at. inv.jobs i job (still_there c.pop.new.self.items c.loop-job.jobs.items c.in-Some.job job i popped at);
      workers =
          pushed (λ (i : ℕ) (s : Started _). IsWorker c.args.lock.now (base_of c.args.of.now.value) i s) c.loop-job.started.items _ _ c.push_reserved.ensures.items inv.workers
          (record { old = c.in-Some.job.pass; fresh = subst (λ (k : ℕ). IsFresh c.args.lock.now (base_of c.args.of.now.value) k c.in-Some.job.pass) place mine.0.fresh; started = c.start_one.ensures });
      all = omega (arith, fewer, more, all);
      room = search rules;
    }

pub loop-job-smaller : goal.loop-job-smaller
loop-job-smaller g c = (let fewer = one_less c.pop.new.self.items c.loop-job.jobs.items c.in-Some.job c.in-Some.ensures.items in omega (arith, fewer))
