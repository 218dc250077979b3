-- A seat that may make a call. This project's own.
use Rattle.std.specs.Prelude.{◌≡◌, ◌+◌, ◌<◌, ◌≤◌, false, [], length}
use Rattle.vm_types.specs.declared.names.Seat.{Seat}
use Rattle.pager_model.specs.Flights.{awaits_reuse, carrier_of}
use Rattle.vm_state.specs.History.{History, owed}

-- a call may be made by the seat: it has no open transfer, no reuse is due, and there is room for its entries
pub record IsFreeSeat (s : History) (seat : Seat) : Type 0 where
  pub there : seat.0 < length s.config.procs + 2
  pub free : carrier_of seat.0 s.past ≡ []
  pub calm : awaits_reuse s.past ≡ false
  pub room : owed s.past + 64 ≤ s.spare
