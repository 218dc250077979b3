-- The open flights as the parts keep them: by frame, by seat, and in all. This project's own.
use Rattle.std.specs.Prelude.{◌≡◌, ℕ, Bool, ◌<◌, List, Option, Some, None, find, length, nat_eq, slice_get}
use Rattle.std.specs.Option.{option_and_then, option_map}
use Rattle.vm_journal.specs.declared.entry.Role.{Role}
use Rattle.pager_model.specs.Flights.{Direction, Flight, reading, writing}
use Rattle.pager_model.specs.Transfers.{flights_of}

abbrev pub is_on_frame : ℕ → Flight → Bool
is_on_frame f x = nat_eq x.frame f

-- the open flight of a frame
abbrev pub flight_on : ℕ → List Flight → Option Flight
flight_on f flights = find (is_on_frame f) flights

abbrev pub role_by : Direction → Option Role
role_by (reading r) = Some r
role_by writing = None

-- the entry that began it, and the role that it has, if it is a read
abbrev pub start_on : ℕ → List Flight → Option ℕ
start_on f flights = option_map (λ (x : Flight). x.start) (flight_on f flights)

abbrev pub role_on : ℕ → List Flight → Option Role
role_on f flights = option_and_then (λ (x : Flight). role_by x.direction) (flight_on f flights)

pub record FlightsFit (flights : List Flight) (n : ℕ) (starts : List (Option ℕ)) (roles : List (Option Role)) : Type 0 where
  pub start_count : length starts ≡ n
  pub role_count : length roles ≡ n
  pub each_start : (f : ℕ) → f < n → slice_get starts f ≡ Some (start_on f flights)
  pub each_role : (f : ℕ) → f < n → slice_get roles f ≡ Some (role_on f flights)

pub record SeatsFit (flights : List Flight) (n : ℕ) (busy : List ℕ) (all : ℕ) : Type 0 where
  pub count : length busy ≡ n
  pub each : (seat : ℕ) → seat < n → slice_get busy seat ≡ Some (flights_of seat flights)
  pub total : all ≡ length flights
