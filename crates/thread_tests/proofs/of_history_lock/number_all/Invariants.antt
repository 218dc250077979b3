-- The passes that are left are the first ones, and the jobs have the last ones, the last first.
use Rattle.std.proofs.Common.{◌≡◌, ℕ, ◌+◌, length, slice_get, vec_capacity, Some}
use Rattle.history_lock.specs.Passes.{OwnsOnly}
use Rattle.thread_tests.proofs.of_history_lock.number_all.Given as goal

abbrev pub invariant-loop-pass : goal.invariant-loop-pass
invariant-loop-pass l = record {
  passes : (i : ℕ) (pass : _) → slice_get l.passes.items i ≡ Some pass → OwnsOnly l._lock pass i;
  jobs : (i : ℕ) (job : _) → slice_get l.jobs.items i ≡ Some job → OwnsOnly l._lock job.pass job.number × (job.number + i + 1 ≡ length l.fn.passes.items);
  count : length l.jobs.items + length l.passes.items ≡ length l.fn.passes.items;
  room : vec_capacity l.jobs ≡ length l.fn.passes.items;
}

abbrev pub decreases-loop-pass : goal.decreases-loop-pass
decreases-loop-pass l = goal.left-loop-pass l
