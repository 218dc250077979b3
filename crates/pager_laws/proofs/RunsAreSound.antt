-- Every run is sound.
use Rattle.pager_laws.specs.Laws.{IsSoundThroughout}
use Rattle.std.proofs.Common.{List, [], ◌∷◌}
use Rattle.vm_types.specs.Configuration.{IsWellFormed}
use Rattle.vm_types.specs.declared.config.Config.{Config}
use Rattle.vm_journal.specs.declared.entry.Entry.{Entry}
use Rattle.pager_laws.proofs.KeptIsSound.{kept_is_sound}
use Rattle.pager_laws.proofs.OpeningKept.{opening_kept}
use Rattle.pager_laws.proofs.StepKept.{step_kept}
use Rattle.pager_model.specs.Around.{past_view}
use Rattle.pager_model.specs.Run.{IsRun, pager_after}
use Rattle.pager_model.specs.Sound.{IsSound}
use Rattle.pager_rules.specs.Kept.{IsKept}

pub run_kept : (config : Config) (past : List Entry) → IsWellFormed config → IsRun config past → IsKept config (past_view past) (pager_after config past)
run_kept config [] formed run = opening_kept config formed
run_kept config (e ∷ past) formed run = step_kept config past (pager_after config past) e formed (run_kept config past formed run.0) run.1

pub run_sound : (config : Config) (past : List Entry) → IsWellFormed config → IsRun config past → IsSound config past (pager_after config past)
run_sound config past formed run = kept_is_sound config past (pager_after config past) (run_kept config past formed run)

-- at each prefix
pub sound_throughout : (config : Config) (past : List Entry) → IsWellFormed config → IsRun config past → IsSoundThroughout config past
sound_throughout config [] formed run = run_sound config [] formed run
sound_throughout config (e ∷ past) formed run = (sound_throughout config past formed run.0, run_sound config (e ∷ past) formed run)
