-- A seat whose process may refer to memory. This project's own.
use Rattle.std.specs.Prelude.{◌≡◌, false, ◌+◌, ◌<◌, ◌≤◌, ◌^◌, length}
use Rattle.vm_types.specs.Configuration.{IsWellFormed}
use Rattle.vm_types.specs.declared.names.ProcStatus.TheVariants as status
use Rattle.vm_types.specs.declared.names.Seat.{Seat}
use Rattle.pager_model.specs.Flights.{awaits_reuse, is_busy, open_flights}
use Rattle.pager_model.specs.Run.{IsRun}
use Rattle.vm_state.specs.History.{History, pager}

-- the seat of a process without an open transfer, and no reuse is due
pub record IsIdleSeat (s : History) (seat : Seat) : Type 0 where
  pub process : seat.0 < length s.config.procs
  pub idle : is_busy seat.0 (open_flights s.past) ≡ false
  pub calm : awaits_reuse s.past ≡ false

-- what is known of each history of a state, the process is resident, and its seat is idle
pub record IsReadySeat (s : History) (seat : Seat) : Type 0 where
  pub formed : IsWellFormed s.config
  pub run : IsRun s.config s.past
  pub short : length s.past + s.spare ≤ 2 ^ 48
  pub seat_is : IsIdleSeat s seat
  pub resident : (pager s).status seat.0 ≡ status.Resident
