-- That a journal made in turns of seats has nothing without a cause, as statements.
use Rattle.std.specs.Prelude.{ℕ, ◌<◌, ◌^◌, List, Option, length}
use Rattle.vm_types.specs.Configuration.{IsWellFormed}
use Rattle.vm_types.specs.declared.config.Config.{Config}
use Rattle.vm_types.specs.declared.service.Request.{Request}
use Rattle.vm_journal.specs.declared.entry.Entry.{Entry}
use Rattle.pager_model.specs.Run.{IsRun}
use Rattle.call_laws.specs.Ready.{IsFree}
use Rattle.entry_causes.specs.Caused.{IsCausedThroughout}
use Rattle.seat_steps.specs.Steps.{IsStep}
use Rattle.seat_steps.specs.Turns.{EachInTurn, IsDue, IsTurn}

-- a step of a seat that has no open flight, for what it is due to work for: each entry has its cause, if each before it has
abbrev pub StepsAreCaused : Type 0
StepsAreCaused =
    (config : Config) (past more : List Entry) (seat : ℕ) (request : Option Request) → IsWellFormed config → IsRun config past → length past < 2 ^ 63 → IsFree past seat → IsDue config past seat request → IsStep config past more seat request
    → IsCausedThroughout config past → IsCausedThroughout config more

-- a whole turn, if all that it leads to is legal
abbrev pub TurnsAreCaused : Type 0
TurnsAreCaused = (config : Config) (past more : List Entry) → IsWellFormed config → IsRun config more → length more < 2 ^ 63 → IsTurn config past more → IsCausedThroughout config past → IsCausedThroughout config more

-- turns one after another, from the first entry on
abbrev pub WholeInTurnsIsCaused : Type 0
WholeInTurnsIsCaused = (config : Config) (past : List Entry) → IsWellFormed config → IsRun config past → length past < 2 ^ 63 → EachInTurn config past → IsCausedThroughout config past
