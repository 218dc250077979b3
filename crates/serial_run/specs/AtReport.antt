-- A run at the report's place, before the rundown. A past is a journal's list of entries, the newest first.
-- This project's own.
use Rattle.std.specs.Prelude.{◌≡◌, Bool, true, false, List, []}
use Rattle.vm_types.specs.Configuration.{IsWellFormed}
use Rattle.vm_types.specs.declared.config.Config.{Config}
use Rattle.vm_journal.specs.declared.entry.Entry.{Entry}
use Rattle.pager_model.specs.Flights.{awaits_reuse, open_flights}
use Rattle.pager_model.specs.Order.{IsAnswered, IsInOrder}
use Rattle.pager_model.specs.Run.{IsRun}
use Rattle.pager_policy.specs.Serial.{IsSerial}
use Rattle.pager_model.specs.Spoken.{IsRight}
use Rattle.vm_state.specs.History.{History}

-- a legal run with right values where the bytes of blocks are known: each process's requests are answered once and in
-- order, no transfer is open, and no frame is in read error
pub record IsAtReport (tells : Bool) (config : Config) (past : List Entry) : Type 0 where
  pub formed : IsWellFormed config
  pub run : IsRun config past
  pub right : tells ≡ true → IsRight config past
  pub in_order : IsInOrder config past
  pub answered : IsAnswered config past
  pub landed : open_flights past ≡ []
  pub reused : awaits_reuse past ≡ false

-- a state is there by the serial policy, it is of this configuration, and its entries are kept
pub record IsReportReached (tells : Bool) (config : Config) (s : History) : Type 0 where
  pub same : s.config ≡ config
  pub keeps : s.keeps ≡ true
  pub there : IsAtReport tells config s.past
  pub serial : IsSerial config s.past
