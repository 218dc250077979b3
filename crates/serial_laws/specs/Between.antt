-- The pager between two moves of the serial policy. This project's own.
use Rattle.std.specs.Prelude.{◌≡◌, false, List, []}
use Rattle.vm_types.specs.Configuration.{IsWellFormed}
use Rattle.vm_types.specs.declared.config.Config.{Config}
use Rattle.vm_journal.specs.declared.entry.Entry.{Entry}
use Rattle.pager_model.specs.Flights.{awaits_reuse, open_flights}
use Rattle.pager_model.specs.Run.{IsRun}

-- no flight is open, and no reuse is due
pub record IsBetween (config : Config) (past : List Entry) : Type 0 where
  pub formed : IsWellFormed config
  pub run : IsRun config past
  pub landed : open_flights past ≡ []
  pub reused : awaits_reuse past ≡ false
