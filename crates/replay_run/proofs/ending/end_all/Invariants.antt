-- The workers that are left are the first ones, and those of all other numbers have ended.
use Rattle.std.proofs.Common.{ℕ, ◌<◌, ◌≤◌, length}
use Rattle.std.specs.Prelude.{Contains}
use Rattle.history_lock.specs.Passes.{numbers}
use Rattle.vm_state.specs.Based.{base_of}
use Rattle.replay_run.specs.Workers.{AreEnded, AreWorkers}
use Rattle.replay_run.proofs.ending.end_all.Given as goal

abbrev pub invariant-loop-next : goal.invariant-loop-next
invariant-loop-next g l = record {
  left : AreWorkers l.lock (base_of l.of.value) l.started.items;
  ended : AreEnded l.lock (base_of l.of.value) l.all;
  others : (k : ℕ) → length l.started.items ≤ k → k < length l.fn.started.items → Contains (numbers l.all.pass) k;
}

abbrev pub decreases-loop-next : goal.decreases-loop-next
decreases-loop-next g l = goal.left-loop-next g l
