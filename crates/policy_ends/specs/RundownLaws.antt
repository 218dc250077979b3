-- The laws of the rundown's end, as statements. This project's own.
use Rattle.std.specs.Prelude.{◌≡◌, false, List, [], ◌++◌}
use Rattle.vm_types.specs.Configuration.{IsWellFormed}
use Rattle.vm_types.specs.declared.config.Config.{Config}
use Rattle.vm_types.specs.declared.names.Page.{Page}
use Rattle.vm_journal.specs.declared.entry.Entry.{Entry}
use Rattle.pager_model.specs.Maps.{is_private}
use Rattle.pager_model.specs.Run.{IsRun, pager_after}
use Rattle.pager_policy.specs.Serial.{IsWhole}
use Rattle.pager_model.specs.DirtyPages.{dirty_pages}
use Rattle.policy_ends.specs.Clean.{NoneFailed}
use Rattle.policy_ends.specs.Dirty.{IsDirtyBecause}

-- if no transfer of the rundown failed, no shared page is dirty at its end
abbrev pub NoFailureNoDirt : Type 0
NoFailureNoDirt =
    (config : Config) (past rest : List Entry) → IsWellFormed config → IsRun config (rest ++ past) → IsWhole config past rest → NoneFailed rest
    → dirty_pages config (pager_after config (rest ++ past)) ≡ []

-- a shared page is dirty at the rundown's end exactly if its last write in the rundown failed or it is still valid
abbrev pub DirtyBecause : Type 0
DirtyBecause =
    (config : Config) (past rest : List Entry) → IsWellFormed config → IsRun config (rest ++ past) → IsWhole config past rest → (g : Page) → is_private g ≡ false
    → IsDirtyBecause config rest (pager_after config (rest ++ past)) g
