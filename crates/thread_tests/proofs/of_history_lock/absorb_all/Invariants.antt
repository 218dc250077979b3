-- The pass owns the numbers of all jobs that have been taken.
use Rattle.std.proofs.Common.{◌≡◌, ℕ, ◌+◌, ◌<◌, length, slice_get, Some, Contains}
use Rattle.history_lock.specs.Passes.{IsIdle, IsOf, OwnsOnly, numbers}
use Rattle.thread_tests.proofs.of_history_lock.absorb_all.Given as goal

abbrev pub invariant-loop-job : goal.invariant-loop-job
invariant-loop-job l = record {
  own : IsOf l.lock l.pass;
  idle : IsIdle l.pass;
  jobs : (i : ℕ) (job : _) → slice_get l.jobs.items i ≡ Some job → (k : ℕ) × (k + i + 1 ≡ length l.fn.jobs.items) × OwnsOnly l.lock job.pass k;
  all : (k : ℕ) → k + length l.jobs.items < length l.fn.jobs.items → Contains (numbers l.pass) k;
}

abbrev pub decreases-loop-job : goal.decreases-loop-job
decreases-loop-job l = goal.left-loop-job l
