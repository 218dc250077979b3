-- What the landing of a seat's carrier leaves, and where the policy goes on. This project's own.
use Rattle.std.specs.Prelude.{◌≡◌, ℕ, Bool, true, false, List, [], length, map}
use Rattle.vm_types.specs.BlockView.{BlockView, Tells}
use Rattle.vm_types.specs.declared.config.Config.{Config}
use Rattle.vm_types.specs.declared.names.Seat.{Seat}
use Rattle.vm_journal.specs.declared.entry.Entry.{Entry}
use Rattle.pager_model.specs.Flights.{awaits_reuse, open_flights, carrier_of}
use Rattle.pager_policy.specs.Landings.{Outcome, all_bad, first_bad, landed_by}
use Rattle.pager_policy.specs.Moves.{After, Control as ControlIs, control, freeing, refuses, saving}
use Rattle.pager_policy.specs.Policy.{ends_part, next_task, unless_all_failed}
use Rattle.pager_policy.specs.Serial.{Heard, IsCarried, IsRefused}
use Rattle.pager_model.specs.Run.{IsRun}
use Rattle.pager_model.specs.Spoken.{IsRight}
use Rattle.call_begins.specs.Lifted.{HasBegunLifts, place_of}
use Rattle.carried_landings.specs.SeatFlights.{flight_place, of_others}
use Rattle.serial_laws.specs.Laws.{IsRefusedLegally}
use Rattle.lift_carriers.specs.CarrierView.{CarrierView}
use Rattle.vm_state.specs.History.{History}
use Rattle.carried_landings.specs.Moved.{IsSameBut}

-- when the landing of the seat's flights refuses the request, that is legal
abbrev pub MayRefuse : Config → List Entry → ℕ → (Bool → Bool → After) → Type 0
MayRefuse config begun seat onward =
    (outcomes : List Outcome) → length outcomes ≡ length (carrier_of seat begun) → IsRun config (landed_by config seat (carrier_of seat begun) outcomes begun)
    → onward (all_bad outcomes) (first_bad outcomes) ≡ refuses → IsRefusedLegally config (landed_by config seat (carrier_of seat begun) outcomes begun) seat

-- the flights have landed, a request may have been refused, and the policy goes on there
pub record IsCarriedOn (tells : Bool) (before after : History) (seat : ℕ) (onward : Bool → Bool → After) (next : ControlIs) : Type 0 where
  pub heard : Heard
  pub carried : IsCarried before.config seat before.past onward heard after.past next
  pub same : IsSameBut before after
  pub right : tells ≡ true → IsRight before.config before.past → IsRight after.config after.past

module _ {B : Type 0} (seen : B → BlockView) where
  -- the carrier has the lifts of all flights that are open, in their order, and they are this seat's
  pub record IsLoaded (tells : Tells) (s : History) (seat : Seat) (c : CarrierView B) : Type 0 where
    pub calm : awaits_reuse s.past ≡ false
    pub lifts : HasBegunLifts seen tells s seat c
    pub whole : map flight_place (carrier_of seat.0 s.past) ≡ map place_of c.lifts
    pub alone : of_others seat.0 (open_flights s.past) ≡ []

-- the next request was refused there, and the work after an answer follows
pub record IsRefusedThere (tells : Bool) (before after : History) (next : ControlIs) : Type 0 where
  pub refused : IsRefused before.past after.past next (next_task before.config before.past)
  pub same : IsSameBut before after
  pub right : tells ≡ true → IsRight before.config before.past → IsRight after.config after.past

-- after the writer's cluster: unless each write failed its part goes on
abbrev pub after_saving : ℕ → Bool → Bool → After
after_saving p = unless_all_failed (ends_part (control (freeing false p))) (control (saving true p))
