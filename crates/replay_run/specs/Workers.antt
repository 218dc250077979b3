-- Workers that have been started, and what they leave once they have ended. This project's own.
use Rattle.std.specs.Prelude.{◌≡◌, ℕ, ◌+◌, false, List, [], ◌∷◌, Contains, Some, length, slice_get}
use mathlib.Core.List.{IsPrefix}
use Rattle.vm_journal.specs.Own.{own_entries}
use Rattle.vm_journal.specs.declared.entry.Entry.{Entry}
use Rattle.history_lock.specs.Passes.{IsIdle, IsOf, base_of, numbers, seen}
use Rattle.history_lock.specs.declared.lock.HistoryLock.{HistoryLock}
use Rattle.history_lock.specs.declared.pass.Pass.{Pass}
use Rattle.vm_state.specs.History.{History}
use Rattle.vm_state.specs.declared.base.StateBase.{StateBase}
use Rattle.vm_actors.specs.Between.{IsCalm, NoneOpen}
use Rattle.vm_actors.specs.declared.ended.Ended.{Ended}
use Rattle.replay_run.specs.Jobs.{AreJobs, IsWorkDone, IsEndedOf, IsFresh, IsPlayable}
use Rattle.replay_run.specs.declared.jobs.Job.{Job}
use Rattle.replay_run.specs.declared.starting.Started.{Started}
use Rattle.replay_run.specs.declared.starting.Started.TheVariants.{Done, Running}

-- the jobs of all seats of a playable state that has so many processes, the last seat's first
pub record AreAllJobs {B : Type 0} (lock : HistoryLock History StateBase) (b : StateBase) (procs : ℕ) (jobs : List (Job B)) : Type 0 where
  pub playable : IsPlayable b
  pub processes : procs ≡ length b.config.procs
  pub each : AreJobs lock b (procs + 2) jobs
  pub count : length jobs ≡ procs + 2

abbrev pub IsStarted : {B : Type 0} → Pass History StateBase → Started B → Type 0
IsStarted old (Running handle) = handle.promise.0.value ≡ old
IsStarted old (Done ended) = IsEndedOf old ended

-- a worker that was given a fresh pass of this number
pub record IsWorker {B : Type 0} (lock : HistoryLock History StateBase) (b : StateBase) (k : ℕ) (s : Started B) : Type 0 where
  pub old : Pass History StateBase
  pub fresh : IsFresh lock b k old
  pub started : IsStarted old s

-- the workers of the first seats, the first one first
abbrev pub AreWorkers : {B : Type 0} → HistoryLock History StateBase → StateBase → List (Started B) → Type 0
AreWorkers {B} lock b started = (i : ℕ) (s : Started B) → slice_get started i ≡ Some s → IsWorker lock b i s

-- in a place of the journal the seat's work was done and nothing of it open, and it has no later entry
pub record WasDone (b : StateBase) (k : ℕ) (journal : List Entry) : Type 0 where
  pub place : List Entry
  pub begins : IsPrefix place journal
  pub own : own_entries k journal ≡ own_entries k place
  pub landed : NoneOpen (k ∷ []) place
  pub done : IsWorkDone b k place

-- the workers of all numbers of the pass have ended, and where memory sufficed their work is done
pub record AreEnded {B : Type 0} (lock : HistoryLock History StateBase) (b : StateBase) (ended : Ended B) : Type 0 where
  pub own : IsOf lock ended.pass
  pub idle : IsIdle ended.pass
  pub stands : base_of ended.pass ≡ Some b
  pub calm : IsCalm (seen ended.pass)
  pub done : ended.short ≡ false → (k : ℕ) → Contains (numbers ended.pass) k → WasDone b k (seen ended.pass)
