-- The passes that are left are the first ones, and the jobs have the last ones, the last first.
use Rattle.std.proofs.Common.{◌≡◌, ℕ, ◌+◌, ◌≤◌, Some, length, slice_get, vec_capacity}
use Rattle.pager_model.specs.Order.{requests_of}
use Rattle.vm_state.specs.Based.{base_of}
use Rattle.replay_run.specs.Jobs.{AreJobs, IsFresh}
use Rattle.replay_run.proofs.jobs.make_jobs.Given as goal

abbrev pub invariant-loop-pass : goal.invariant-loop-pass
invariant-loop-pass g l = record {
  passes : (i : ℕ) (pass : _) → slice_get l.passes.items i ≡ Some pass → IsFresh l._lock (base_of l._of.value) i pass;
  works : (i : ℕ) (work : _) → slice_get l.works.items i ≡ Some work → work.items ≡ requests_of i l._of.value.config.body;
  jobs : AreJobs l._lock (base_of l._of.value) (length l.fn.passes.items) l.jobs.items;
  same : length l.works.items ≡ length l.passes.items;
  count : length l.jobs.items + length l.passes.items ≡ length l.fn.passes.items;
  room : length l.fn.passes.items ≤ vec_capacity l.jobs;
}

abbrev pub decreases-loop-pass : goal.decreases-loop-pass
decreases-loop-pass g l = length l.passes.items
