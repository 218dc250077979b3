-- Jobs as they are handed out and given back.
use Rattle.std.proofs.Common.{◌≡◌, ℕ, ◌+◌, List, [], ◌∷◌, ◌++◌, length}
use Rattle.history_lock.specs.declared.lock.HistoryLock.{HistoryLock}
use Rattle.history_lock.proofs.Places.{last_there}
use Rattle.vm_state.specs.History.{History}
use Rattle.vm_state.specs.declared.base.StateBase.{StateBase}
use Rattle.replay_run.specs.Jobs.{AreJobs, IsJob}
use Rattle.replay_run.specs.declared.jobs.Job.{Job}

module _ {B : Type 0} (lock : HistoryLock History StateBase) (b : StateBase) where
  -- the last of some jobs is that of the lowest seat that is left
  pub last_job : (n : ℕ) (left jobs : List (Job B)) (job : Job B) → jobs ≡ left ++ job ∷ [] → AreJobs lock b n jobs → IsJob lock b job × ((job.carrier.seat).0 + length left + 1 ≡ n)
  last_job n left jobs job is are = are (length left) job (last_there left jobs job is)
