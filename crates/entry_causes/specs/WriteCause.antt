-- Why the write of a page begins that heads the modified list. Source: Kenah and Bate, "VAX/VMS Internals and Data
-- Structures", the modified page writer (MPW_LOLIMIT, MPW_WAITLIMIT) and the swapper (FREEGOAL); that a process that
-- lacks a frame has pages written, and the rundown, are this project's own.
use Rattle.std.specs.Prelude.{◌≡◌, ◌⊎◌, ℕ, false, true, ◌+◌, ◌<◌, List, [], Some, length}
use Rattle.std.specs.List.{Contains}
use Rattle.vm_types.specs.declared.names.Page.{Page}
use Rattle.vm_types.specs.declared.config.Config.{Config}
use Rattle.vm_journal.specs.declared.entry.Entry.{Entry}
use Rattle.pager_model.specs.Flights.{is_busy, open_flights}
use Rattle.pager_model.specs.Maps.{is_private}
use Rattle.pager_model.specs.Order.{IsAnswered}
use Rattle.pager_model.specs.Pager.{Pager}
use Rattle.entry_causes.specs.FrameWanted.{WantsFrame}
use Rattle.entry_causes.specs.HeldUp.{IsHeldUp}

-- the writer's: the modified list is longer than LOLIMIT
pub record IsListLong (config : Config) (a : Pager) (seat : ℕ) : Type 0 where
  pub writer : seat ≡ length config.procs
  pub long : config.params.lolimit < length a.modified

-- the swapper's: fewer frames are free than FREEGOAL
pub record AreFewFree (config : Config) (a : Pager) (seat : ℕ) : Type 0 where
  pub swapper : seat ≡ length config.procs + 1
  pub few : length a.free < config.params.freegoal

-- no frame is free, and a process wants one
pub record IsFrameMissed (config : Config) (past : List Entry) (a : Pager) : Type 0 where
  pub none_free : a.free ≡ []
  pub p : ℕ
  pub wants : WantsFrame config past a p

-- the writer's in the rundown: every request is answered, and a shared page is on the modified list
pub record IsRundownWrite (config : Config) (past : List Entry) (a : Pager) (seat : ℕ) : Type 0 where
  pub writer : seat ≡ length config.procs
  pub answered : IsAnswered config past
  pub f : ℕ
  pub listed : Contains a.modified f
  pub page : Page
  pub holds : a.page f ≡ Some page
  pub shared : is_private page ≡ false

-- it goes on with a cluster, whose first write has its cause (that it may, is the rule of seats); or one of these; or
-- an eviction is held up
abbrev pub IsWriteCause : Config → List Entry → Pager → ℕ → Type 0
IsWriteCause config past a seat =
    (is_busy seat (open_flights past) ≡ true)
    ⊎ (IsListLong config a seat
    ⊎ (AreFewFree config a seat
    ⊎ (IsFrameMissed config past a
    ⊎ (IsHeldUp config past a
    ⊎ IsRundownWrite config past a seat))))
