-- The state that a log's entries lead to, as tables show it. This project's own.
use Rattle.std.specs.Prelude.{◌≡◌, List, length}
use Rattle.vm_types.specs.Configuration.{IsWellFormed}
use Rattle.vm_types.specs.declared.config.Config.{Config}
use Rattle.vm_journal.specs.declared.entry.Entry.{Entry}
use Rattle.pager_model.specs.Run.{IsRun, pager_after}
use Rattle.shadow_pager.specs.Shown.{Shown}

-- the entries are a legal run of a well-formed configuration, and the tables show each of its frames and
-- processes, and the state after the run
pub record ShowsRun (config : Config) (past : List Entry) (s : Shown) : Type 0 where
  pub formed : IsWellFormed config
  pub run : IsRun config past
  pub frames : s.frames ≡ config.frames
  pub processes : s.processes ≡ length config.procs
  pub pager : s.pager ≡ pager_after config past
