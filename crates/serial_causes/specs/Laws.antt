-- That a serial journal has nothing without a cause, as statements.
use Rattle.std.specs.Prelude.{◌<◌, ◌^◌, ◌++◌, List, length}
use Rattle.vm_types.specs.Configuration.{IsWellFormed}
use Rattle.vm_types.specs.declared.config.Config.{Config}
use Rattle.vm_journal.specs.declared.entry.Entry.{Entry}
use Rattle.pager_model.specs.Run.{IsRun}
use Rattle.pager_policy.specs.Moves.{Control}
use Rattle.pager_policy.specs.Serial.{IsSerial, IsSerialTo, IsWhole}
use Rattle.entry_causes.specs.Caused.{IsCausedThroughout}

-- wherever the serial policy has come to, each entry has its cause, if each is legal and they can be numbered
abbrev pub SerialIsCaused : Type 0
SerialIsCaused =
    (config : Config) (past : List Entry) (c : Control) → IsWellFormed config → IsRun config past → length past < 2 ^ 63 → IsSerialTo config past c
    → IsCausedThroughout config past

-- and so has each entry of a whole serial journal, with its rundown
abbrev pub WholeIsCaused : Type 0
WholeIsCaused =
    (config : Config) (past rest : List Entry) → IsWellFormed config → IsRun config (rest ++ past) → length (rest ++ past) < 2 ^ 63 → IsSerial config past → IsWhole config past rest
    → IsCausedThroughout config (rest ++ past)

-- whoever made the entries up to the report's place, if each of these has its cause, each of the rundown has
abbrev pub RundownIsCaused : Type 0
RundownIsCaused = (config : Config) (past rest : List Entry) → IsWhole config past rest → IsCausedThroughout config past → IsCausedThroughout config (rest ++ past)
