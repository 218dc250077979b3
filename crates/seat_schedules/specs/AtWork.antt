-- Seats at work beside one another. This project's own.
use Rattle.std.specs.Prelude.{◌≡◌, ℕ, ◌+◌, false, List, [], ◌∷◌, Some, None, length, map, slice_get}
use Rattle.vm_types.specs.BlockView.{BlockView, Tells}
use Rattle.vm_types.specs.WellFormed.{IsWellFormedReference}
use Rattle.vm_types.specs.declared.names.Seat.{Seat}
use Rattle.vm_types.specs.declared.reference.Ref.{Ref}
use Rattle.vm_journal.specs.declared.entry.Entry.{Entry}
use Rattle.vm_journal.specs.declared.entry.What.{What}
use Rattle.frame_store.specs.LiftView.{LiftView}
use Rattle.pager_model.specs.Flights.{awaits_reuse, carrier_of}
use Rattle.pager_policy.specs.Given.{made_by}
use Rattle.vm_state.specs.History.{History}
use Rattle.call_begins.specs.Lifted.{HasBegunLifts, place_of}
use Rattle.call_begins.specs.MayBegin.{empty}
use Rattle.carried_landings.specs.SeatFlights.{flight_place}
use Rattle.seat_laws.specs.Lost.{IsLost, IsReadFor}
use Rattle.seat_schedules.specs.declared.worker.Worker.{Worker}

-- a worker without lifts and without a reference
abbrev pub idle : {B : Type 0} → Seat → Worker B
idle seat = record { carrier = empty seat; reference = None }

-- the reads for a reference are those that the worker has, or they were lost
abbrev pub IsFor : {B : Type 0} → List Entry → ℕ → Ref → List (LiftView B) → Type 0
IsFor past seat r [] = IsLost past seat r
IsFor past seat r (lift ∷ lifts) = IsReadFor past seat r

module _ {B : Type 0} (seen : B → BlockView) (tells : Tells) where
  -- the worker has the lifts of all open transfers of its seat, in their order
  pub record IsAtWork (s : History) (seat : Seat) (w : Worker B) : Type 0 where
    pub lifts : HasBegunLifts seen tells s seat w.carrier
    pub whole : map flight_place (carrier_of seat.0 s.past) ≡ map place_of w.carrier.lifts
    pub formed : (r : Ref) → w.reference ≡ Some r → IsWellFormedReference r
    pub waits : (r : Ref) → w.reference ≡ Some r → IsFor s.past seat.0 r w.carrier.lifts

  -- so it is with the workers of all seats, by seat, and no reuse is due
  pub record AreAtWork (s : History) (workers : List (Worker B)) : Type 0 where
    pub count : length workers ≡ length s.config.procs + 2
    pub calm : awaits_reuse s.past ≡ false
    pub each : (i : ℕ) (w : Worker B) → slice_get workers i ≡ Some w → IsAtWork s (record { 0 = i }) w

  -- the seat has made entries, if any, and is at work with this worker
  pub record HasWorked (s t : History) (seat : Seat) (w : Worker B) : Type 0 where
    pub made : List What
    pub past : t.past ≡ made_by seat.0 made s.past
    pub same : t ≡ record s { past = t.past; spare = t.spare }
    pub calm : awaits_reuse t.past ≡ false
    pub at_work : IsAtWork t seat w
