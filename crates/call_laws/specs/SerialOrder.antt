-- That the serial policy answers each request once and in order, and that a configuration has one serial journal, as
-- statements.
use Rattle.std.specs.Prelude.{◌≡◌, List, [], ◌∷◌, ◌++◌, None}
use Rattle.vm_types.specs.declared.config.Config.{Config}
use Rattle.vm_journal.specs.declared.entry.Entry.{Entry}
use Rattle.pager_model.specs.Order.{IsInOrder, IsAnswered}
use Rattle.pager_model.specs.Spoken.{IsRight}
use Rattle.pager_policy.specs.Landings.{Outcome}
use Rattle.pager_policy.specs.Moves.{Control}
use Rattle.pager_policy.specs.Policy.{next_task}
use Rattle.pager_policy.specs.Serial.{Heard, IsRundown, IsSerialTo, Rests}

-- the outcomes that a serial journal was told, in order
abbrev pub all_told : List Heard → List Outcome
all_told [] = []
all_told (heard ∷ told) = all_told told ++ heard.outcomes

-- what the serial policy gives has each process's requests once and in order
abbrev pub SerialIsInOrder : Type 0
SerialIsInOrder = (config : Config) (past : List Entry) (c : Control) → IsSerialTo config past c → IsInOrder config past

-- and all of them when no task is left
abbrev pub SerialEndsAnswered : Type 0
SerialEndsAnswered = (config : Config) (past : List Entry) (c : Control) → IsSerialTo config past c → next_task config past ≡ None → IsAnswered config past

-- two serial journals of one configuration at which the policy rests, which were told the same outcomes of landings
-- and have right values, are equal
abbrev pub SerialIsOne : Type 0
SerialIsOne =
    (config : Config) (past other : List Entry) (c d : Control) (s : IsSerialTo config past c) (t : IsSerialTo config other d)
    → Rests config past c → Rests config other d → IsRight config past → IsRight config other → all_told s.told ≡ all_told t.told → past ≡ other

-- and so are the rundowns of one journal
abbrev pub RundownIsOne : Type 0
RundownIsOne =
    (config : Config) (past rest other : List Entry) (s : IsRundown config past rest) (t : IsRundown config past other)
    → IsRight config (rest ++ past) → IsRight config (other ++ past) → all_told s.told ≡ all_told t.told → rest ≡ other
