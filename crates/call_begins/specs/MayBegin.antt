-- A seat of any kind that may begin to work: a process's, the writer's or the swapper's. This project's own.
use Rattle.std.specs.Prelude.{◌≡◌, false, ◌+◌, ◌<◌, [], length}
use Rattle.vm_types.specs.declared.names.Seat.{Seat}
use Rattle.pager_model.specs.Flights.{awaits_reuse, is_busy, open_flights}
use Rattle.lift_carriers.specs.CarrierView.{CarrierView}
use Rattle.vm_state.specs.History.{History}

-- the seat is there and has no open transfer, and no reuse is due
pub record MayBegin (s : History) (seat : Seat) : Type 0 where
  pub there : seat.0 < length s.config.procs + 2
  pub idle : is_busy seat.0 (open_flights s.past) ≡ false
  pub calm : awaits_reuse s.past ≡ false

-- a seat's carrier without lifts
abbrev pub empty : {B : Type 0} → Seat → CarrierView B
empty seat = record { seat = seat; lifts = [] }
