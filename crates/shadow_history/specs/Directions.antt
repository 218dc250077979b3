-- A direction of the code as one of the model. This project's own.
use Rattle.std.specs.Prelude.{◌≡◌, ℕ, refl}
use Rattle.vm_types.specs.declared.names.BlockId.{BlockId}
use Rattle.vm_types.specs.declared.names.Pfn.{Pfn}
use Rattle.vm_types.specs.declared.names.Seat.{Seat}
use Rattle.pager_model.specs.Flights.{Direction as Way, reading, writing}
use Rattle.shadow_history.specs.declared.direction.Direction.{Direction}
use Rattle.shadow_history.specs.declared.direction.Direction.TheVariants.{Reading, Writing}
use Rattle.shadow_history.specs.declared.flight.Flight.TheInside.{Inside}

abbrev pub direction_of : Direction → Way
direction_of (Reading role) = reading role
direction_of Writing = writing

abbrev pub direction_as : Way → Direction
direction_as (reading role) = Reading role
direction_as writing = Writing

-- there and back a flight is the same
pub direction_again : (start : ℕ) (seat : Seat) (frame : Pfn) (block : BlockId) (d : Direction)
    → let made : Inside = record { start = start; seat = seat; frame = frame; block = block; direction = direction_as (direction_of d) } in
    let was : Inside = record { start = start; seat = seat; frame = frame; block = block; direction = d } in made ≡ was
direction_again start seat frame block (Reading role) = refl
direction_again start seat frame block Writing = refl
