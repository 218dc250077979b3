-- What a run keeps under a longer body, as statements. Of a run's legality only the evictions of the rundown read
-- the body: they ask that every request is answered. This project's own.
use Rattle.std.specs.Prelude.{◌≡◌, ℕ, Bool, true, false, List, Option}
use Rattle.vm_types.specs.BlockView.{BlockView}
use Rattle.vm_types.specs.Configuration.{IsWellFormed}
use Rattle.vm_types.specs.declared.config.Config.{Config}
use Rattle.vm_types.specs.declared.config.Task.{Task}
use Rattle.vm_types.specs.declared.names.BlockId.{BlockId}
use Rattle.vm_journal.specs.declared.entry.Entry.{Entry}
use Rattle.pager_model.specs.Content.{ContentFits}
use Rattle.pager_model.specs.Order.{IsInOrder}
use Rattle.pager_model.specs.Pager.{Pager}
use Rattle.pager_model.specs.Run.{IsRun, pager_after}
use Rattle.pager_model.specs.Spoken.{IsRight, flat_after}
use Rattle.pager_laws.specs.Laws.{IsSoundThroughout}
use Rattle.pager_laws.specs.Bodies.{MayBeAdded, has_rundown, with_body, with_task}

-- a well-formed configuration stays so with a request that may be added
abbrev pub FormedStays : Type 0
FormedStays = (config : Config) (task : Task) → IsWellFormed config → MayBeAdded config task → IsWellFormed (with_task config task)

-- whatever the body, a past leads to the same state of the pager, and to the same flat state
abbrev pub StateIsSame : Type 0
StateIsSame = (config : Config) (body : List Task) (past : List Entry) → pager_after (with_body config body) past ≡ pager_after config past

abbrev pub FlatIsSame : Type 0
FlatIsSame = (config : Config) (body : List Task) (past : List Entry) → flat_after (with_body config body) past ≡ flat_after config past

-- and buffers and blocks that have the flat machine's bytes under one body have them under each
abbrev pub BytesStay : Type 0
BytesStay =
    (tells tells_plan : Bool) (config : Config) (body : List Task) (past : List Entry) (a : Pager) (buffer : ℕ → Option (List ℕ)) (home : BlockId → Option BlockView)
    → ContentFits tells tells_plan config past a buffer home → ContentFits tells tells_plan (with_body config body) past a buffer home

-- before the rundown's first eviction a run is one whatever the body
abbrev pub RunsStay : Type 0
RunsStay = (config : Config) (body : List Task) (past : List Entry) → has_rundown past ≡ false → IsRun config past → IsRun (with_body config body) past

-- after it a run is none with one more request
abbrev pub RundownsEnd : Type 0
RundownsEnd = (config : Config) (task : Task) (past : List Entry) → has_rundown past ≡ true → IsRun config past → IsRun (with_task config task) past → ⊥

-- right values are right whatever the body
abbrev pub RightStays : Type 0
RightStays = (config : Config) (body : List Task) (past : List Entry) → IsRight config past → IsRight (with_body config body) past

-- what is in order is in order with one more request
abbrev pub OrderStays : Type 0
OrderStays = (config : Config) (task : Task) (past : List Entry) → IsInOrder config past → IsInOrder (with_task config task) past

-- a run: each entry is legal, right and in order, and the state is sound throughout
pub record IsProperRun (config : Config) (past : List Entry) : Type 0 where
  pub run : IsRun config past
  pub right : IsRight config past
  pub in_order : IsInOrder config past
  pub sound : IsSoundThroughout config past

-- so before the rundown's first eviction a run is one of the configuration with one more request
abbrev pub RunsGoOn : Type 0
RunsGoOn =
    (config : Config) (task : Task) (past : List Entry) → IsWellFormed config → MayBeAdded config task → has_rundown past ≡ false
    → IsProperRun config past → IsProperRun (with_task config task) past
