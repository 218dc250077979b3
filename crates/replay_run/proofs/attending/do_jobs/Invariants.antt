-- The jobs that are left are the first ones, and the workers are those of the first seats.
use Rattle.std.proofs.Common.{◌≡◌, ◌+◌, ◌≤◌, length, vec_capacity}
use Rattle.vm_state.specs.Based.{base_of}
use Rattle.replay_run.specs.Jobs.{AreJobs}
use Rattle.replay_run.specs.Workers.{AreWorkers}
use Rattle.replay_run.proofs.attending.do_jobs.Given as goal

abbrev pub invariant-loop-job : goal.invariant-loop-job
invariant-loop-job g l = record {
  jobs : AreJobs l.lock (base_of l.of.value) (l.procs + 2) l.jobs.items;
  workers : AreWorkers l.lock (base_of l.of.value) l.started.items;
  all : length l.jobs.items + length l.started.items ≡ l.procs + 2;
  room : l.procs + 2 ≤ vec_capacity l.started;
}

abbrev pub decreases-loop-job : goal.decreases-loop-job
decreases-loop-job g l = length l.jobs.items
