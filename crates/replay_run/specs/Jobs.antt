-- What the workers of a run are given, and what they leave. This project's own.
use Rattle.std.specs.Prelude.{◌≡◌, ℕ, ◌+◌, ◌⊎◌, ◌<◌, true, false, List, [], ◌∷◌, Option, Some, None, length, reverse, slice_get}
use Rattle.vm_types.specs.Configuration.{IsWellFormed}
use Rattle.vm_types.specs.declared.config.Config.{Config}
use Rattle.vm_journal.specs.declared.entry.Entry.{Entry}
use Rattle.history_lock.specs.Passes.{IsIdle, IsOf, IsSameLock, base_of, numbers, seen, view}
use Rattle.history_lock.specs.Views.{unseen}
use Rattle.history_lock.specs.declared.lock.HistoryLock.{HistoryLock}
use Rattle.history_lock.specs.declared.pass.Pass.{Pass}
use Rattle.pager_model.specs.Order.{requests_of}
use Rattle.vm_state.specs.History.{History}
use Rattle.vm_state.specs.declared.base.StateBase.{StateBase}
use Rattle.call_begins.specs.MayBegin.{empty}
use Rattle.vm_actors.specs.Between.{IsCalm, NoneOpen}
use Rattle.vm_actors.specs.Doings.{MayDo, RestsAt, request_of}
use Rattle.vm_actors.specs.InTurns.{MadeInTurns}
use Rattle.vm_actors.specs.OwnEntries.{GoesOnSilently, MadeSome}
use Rattle.vm_actors.specs.Requests.{AreAllAnswered, HasAnswered}
use Rattle.vm_actors.specs.declared.doing.Doing.{Doing}
use Rattle.vm_actors.specs.declared.doing.Doing.TheVariants.{Swapping, Writing}
use Rattle.vm_actors.specs.declared.ended.Ended.{Ended}
use Rattle.replay_run.specs.declared.jobs.Job.{Job}

-- a state that keeps its entries, on a well formed configuration
pub record IsPlayable (b : StateBase) : Type 0 where
  pub keeps : b.keeps ≡ true
  pub formed : IsWellFormed b.config

-- an idle pass of the lock that has seen nothing and owns this number alone
pub record IsFresh (lock : HistoryLock History StateBase) (b : StateBase) (k : ℕ) (pass : Pass History StateBase) : Type 0 where
  pub own : IsOf lock pass
  pub idle : IsIdle pass
  pub views : view pass ≡ unseen (k ∷ []) b

-- of a seat: such a pass, an empty carrier, and the requests of the seat in the body
pub record IsJob {B : Type 0} (lock : HistoryLock History StateBase) (b : StateBase) (job : Job B) : Type 0 where
  pub fresh : IsFresh lock b ((job.carrier.seat).0) job.pass
  pub carries : job.carrier ≡ empty job.carrier.seat
  pub asks : job.work.items ≡ requests_of ((job.carrier.seat).0) b.config.body
  pub there : (job.carrier.seat).0 < length b.config.procs + 2

-- of a playable state: such a job, and this holds of the configuration
pub record IsJobFor {B : Type 0} (May : Config → Type 0) (lock : HistoryLock History StateBase) (given : Job B) : Type 0 where
  pub base : StateBase
  pub playable : IsPlayable base
  pub job : IsJob lock base given
  pub may : May base.config

-- there are so many processes; the job is one's; or it is one that is done for no request
abbrev pub IsJobAmong : {B : Type 0} → ℕ → HistoryLock History StateBase → Job B → Type 0
IsJobAmong procs lock job = IsJobFor (λ (config : Config). procs ≡ length config.procs) lock job

abbrev pub IsProcessJob : {B : Type 0} → HistoryLock History StateBase → Job B → Type 0
IsProcessJob lock job = IsJobFor (λ (config : Config). (job.carrier.seat).0 < length config.procs) lock job

abbrev pub IsIdleJob : {B : Type 0} → HistoryLock History StateBase → Job B → Doing → Type 0
IsIdleJob lock job doing = (request_of doing ≡ None) × IsJobFor (MayDo job.carrier.seat doing) lock job

-- the jobs of the seats below this number, the last seat's first
abbrev pub AreJobs : {B : Type 0} → HistoryLock History StateBase → StateBase → ℕ → List (Job B) → Type 0
AreJobs {B} lock b n jobs = (i : ℕ) (job : Job B) → slice_get jobs i ≡ Some job → IsJob lock b job × ((job.carrier.seat).0 + i + 1 ≡ n)

-- the modified page writer's or the swapper's work: it answers nothing; all requests are answered; and it has an entry,
-- or there is nothing to do
pub record IsIdleDone (b : StateBase) (k : ℕ) (doing : Doing) (place : List Entry) : Type 0 where
  pub silent : GoesOnSilently (k ∷ []) [] place
  pub answered : AreAllAnswered (Some b) place
  pub worked : MadeSome (k ∷ []) [] place ⊎ RestsAt doing (Some b) (reverse place)

-- the seat's work is done in the journal: a process's requests are answered, each once and in their order; and each entry
-- of the seat was made in a turn
pub record IsWorkDone (b : StateBase) (k : ℕ) (place : List Entry) : Type 0 where
  pub process : k < length b.config.procs → HasAnswered (k ∷ []) [] place (requests_of k b.config.body)
  pub writer : k ≡ length b.config.procs → IsIdleDone b k Writing place
  pub swapper : k ≡ length b.config.procs + 1 → IsIdleDone b k Swapping place
  pub turns : MadeInTurns (Some b) k [] place

-- by what its pass knew at first
abbrev pub IsDoneBy : Option StateBase → List ℕ → List Entry → Type 0
IsDoneBy (Some b) (k ∷ []) place = IsWorkDone b k place
IsDoneBy base numbers place = ⊥

-- the worker that was given this pass has ended: nothing is open of its numbers, no reuse is due, and where memory
-- sufficed its work is done
pub record IsEndedOf {B : Type 0} (old : Pass History StateBase) (ended : Ended B) : Type 0 where
  pub same : IsSameLock old ended.pass
  pub idle : IsIdle ended.pass
  pub owns : numbers ended.pass ≡ numbers old
  pub stands : base_of ended.pass ≡ base_of old
  pub landed : NoneOpen (numbers old) (seen ended.pass)
  pub calm : IsCalm (seen ended.pass)
  pub done : ended.short ≡ false → IsDoneBy (base_of old) (numbers old) (seen ended.pass)
