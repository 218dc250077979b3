-- When a seat may begin a call for its own process. This project's own.
use Rattle.std.specs.Prelude.{◌≡◌, ℕ, false, ◌+◌, ◌^◌, ◌<◌, ◌≤◌, List, length}
use Rattle.vm_types.specs.Configuration.{IsWellFormed}
use Rattle.vm_types.specs.declared.config.Config.{Config}
use Rattle.vm_journal.specs.declared.entry.Entry.{Entry}
use Rattle.pager_model.specs.Flights.{awaits_reuse, is_busy, open_flights}
use Rattle.pager_model.specs.Own.{IsResident}
use Rattle.pager_model.specs.Run.{IsRun, pager_after}

-- the seat has no open flight, and no reuse is due
pub record IsFree (past : List Entry) (seat : ℕ) : Type 0 where
  pub idle : is_busy seat (open_flights past) ≡ false
  pub calm : awaits_reuse past ≡ false

-- the seat works for its own process, which is resident, and entries can still be numbered
pub record IsReady (config : Config) (past : List Entry) (p : ℕ) : Type 0 where
  pub formed : IsWellFormed config
  pub run : IsRun config past
  pub few : length past < 2 ^ 63
  pub free : IsFree past p
  pub own : IsResident config (pager_after config past) p

-- a seat of any kind: a process's, the writer's or the swapper's
pub record MayWork (config : Config) (past : List Entry) (seat : ℕ) : Type 0 where
  pub formed : IsWellFormed config
  pub run : IsRun config past
  pub free : IsFree past seat
  pub seat_there : seat ≤ length config.procs + 1
