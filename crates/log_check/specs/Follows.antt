-- What the pager's state is known to say of the configuration and of the entries. This project's own.
use Rattle.std.specs.Prelude.{◌≡◌, List, length}
use Rattle.vm_types.specs.Configuration.{IsWellFormed}
use Rattle.vm_types.specs.declared.config.Config.{Config}
use Rattle.vm_journal.specs.declared.entry.Entry.{Entry}
use Rattle.pager_model.specs.Order.{IsInOrder}
use Rattle.pager_model.specs.Run.{IsRun, pager_after}
use Rattle.shadow_pager.specs.Shown.{Shown}

-- its tables have a place for each frame and each process of a well-formed configuration
pub record IsTable (config : Config) (s : Shown) : Type 0 where
  pub formed : IsWellFormed config
  pub frames : s.frames ≡ config.frames
  pub processes : s.processes ≡ length config.procs

-- it is the state after a run in which each process's requests were answered in order
pub record Follows (config : Config) (past : List Entry) (s : Shown) : Type 0 where
  pub tables : IsTable config s
  pub run : IsRun config past
  pub in_order : IsInOrder config past
  pub pager : s.pager ≡ pager_after config past
