-- Why a process is swapped out or in. Source: Kenah and Bate, "VAX/VMS Internals and Data Structures", the swapper:
-- FREEGOAL, outswap and inswap; that a process's own seat swaps for it is this project's own.
use Rattle.std.specs.Prelude.{◌≡◌, ◌⊎◌, ◌≢◌, ℕ, ◌<◌, List, [], length}
use Rattle.vm_types.specs.declared.names.ProcStatus.{ProcStatus}
use Rattle.vm_types.specs.declared.names.ProcStatus.TheVariants as status
use Rattle.vm_types.specs.declared.config.Config.{Config}
use Rattle.vm_journal.specs.declared.entry.Entry.{Entry}
use Rattle.pager_model.specs.Pager.{Pager}
use Rattle.entry_causes.specs.FrameWanted.{WantsFrame}
use Rattle.entry_causes.specs.NextRequest.{HasRequest}
use Rattle.entry_causes.specs.WriteCause.{AreFewFree}

abbrev pub IsNoneLeaving : Config → Pager → Type 0
IsNoneLeaving config a = (q : ℕ) → q < length config.procs → a.status q ≡ status.Leaving → ⊥

-- no frame is free, no page is on the modified list, no process is leaving, and another one wants a frame
pub record IsRoomMissed (config : Config) (past : List Entry) (a : Pager) (q : ℕ) : Type 0 where
  pub none_free : a.free ≡ []
  pub none_listed : a.modified ≡ []
  pub none_leaving : IsNoneLeaving config a
  pub p : ℕ
  pub other : p ≢ q
  pub wants : WantsFrame config past a p

-- it is coming, and another process is gone and has a request: only one comes at a time
pub record IsComingBarred (config : Config) (past : List Entry) (a : Pager) (q : ℕ) : Type 0 where
  pub coming : a.status q ≡ status.Coming
  pub p : ℕ
  pub gone : a.status p ≡ status.Gone
  pub asks : HasRequest config past p

-- process q leaves for one of these; it comes for its own request; that it is gone or resident ends what was begun,
-- and is told by legality alone
abbrev pub IsTurnCause : Config → List Entry → Pager → ℕ → ℕ → ProcStatus → Type 0
IsTurnCause config past a seat q status.Leaving = AreFewFree config a seat ⊎ (IsRoomMissed config past a q ⊎ IsComingBarred config past a q)
IsTurnCause config past a seat q status.Coming = HasRequest config past q
IsTurnCause config past a seat q other = Unit {0}
