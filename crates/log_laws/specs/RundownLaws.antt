-- The laws of the rundown entry by entry, as statements. This project's own.
use Rattle.std.specs.Prelude.{◌≡◌, ◌↔◌, List, ◌∷◌, ◌++◌, Some}
use Rattle.std.specs.Option.{IsSome}
use Rattle.vm_types.specs.declared.config.Config.{Config}
use Rattle.vm_journal.specs.declared.entry.Entry.{Entry}
use Rattle.pager_policy.specs.Cleaning.{Cleaning}
use Rattle.pager_policy.specs.Moves.{rests}
use Rattle.pager_model.specs.Run.{IsRun, pager_after}
use Rattle.pager_policy.specs.Rundown.{cleaning_move}
use Rattle.pager_policy.specs.Serial.{IsRundown}
use Rattle.log_model.specs.NextLine.{AreRundownFirst}
use Rattle.serial_laws.specs.Between.{IsBetween}
use Rattle.log_laws.specs.Underway.{IsAtRest, Underway, no_move, plan_at, step, underway_after}

-- legal entries after the report are the first ones of a rundown exactly if they lead, step by step, to a place
-- underway
abbrev pub RundownIsStepwise : Type 0
RundownIsStepwise = (config : Config) (past rest : List Entry) → IsBetween config past → IsRun config (rest ++ past) → AreRundownFirst config past rest ↔ IsSome (underway_after config past rest)

-- one more may come exactly if it is a step from there
abbrev pub NextRundownIsAStep : Type 0
NextRundownIsAStep =
    (config : Config) (past rest : List Entry) (e : Entry) (u : Underway) → IsBetween config past → IsRun config (rest ++ past) → underway_after config past rest ≡ Some u
    → AreRundownFirst config past (e ∷ rest) ↔ IsSome (step config (rest ++ past) u e)

-- and they are the whole rundown exactly if it rests there
abbrev pub EndingIsAtRest : Type 0
EndingIsAtRest =
    (config : Config) (past rest : List Entry) (u : Underway) → IsBetween config past → IsRun config (rest ++ past) → underway_after config past rest ≡ Some u
    → IsRundown config past rest ↔ IsAtRest config (rest ++ past) u

-- the plan is the move: where there is none the policy rests
abbrev pub NoMoveIsRest : Type 0
NoMoveIsRest = (config : Config) (past : List Entry) (at : Cleaning) → IsBetween config past → plan_at config past at ≡ no_move ↔ (cleaning_move config past (pager_after config past) at ≡ rests)
