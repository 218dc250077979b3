-- A seat's open flights and those of the other seats. This project's own.
use Rattle.std.specs.Prelude.{ℕ, List, filter, nat_eq, not}
use Rattle.vm_types.specs.declared.names.BlockId.{BlockId}
use Rattle.pager_model.specs.Flights.{Flight}

-- the frame and the block
abbrev pub flight_place : Flight → ℕ × BlockId
flight_place x = (x.frame, x.block)

-- the flights of the other seats
abbrev pub of_others : ℕ → List Flight → List Flight
of_others seat flights = filter (λ (x : Flight). not (nat_eq x.seat seat)) flights
