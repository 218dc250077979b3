-- What a seat that had nothing open does for any process, and what its landing leaves. This project's own.
use Rattle.std.specs.Prelude.{◌≡◌, ◌⊎◌, ℕ, ◌<◌, Bool, true, false, List, [], length}
use Rattle.vm_types.specs.BlockView.{BlockView, Tells}
use Rattle.vm_types.specs.WellFormed.{IsRequestOf, IsWellFormedRequest}
use Rattle.vm_types.specs.declared.names.Proc.{Proc}
use Rattle.vm_types.specs.declared.names.Seat.{Seat}
use Rattle.vm_types.specs.declared.service.Request.{Request}
use Rattle.vm_journal.specs.declared.entry.What.{What}
use Rattle.pager_model.specs.Flights.{awaits_reuse, carrier_of}
use Rattle.pager_policy.specs.Landings.{Outcome, all_bad, first_bad, landed_by}
use Rattle.lift_carriers.specs.CarrierView.{CarrierView}
use Rattle.vm_state.specs.Based.{base_of}
use Rattle.vm_state.specs.History.{History}
use Rattle.vm_state.specs.LiftsLand.{added_each}
use Rattle.call_begins.specs.MayBegin.{empty}
use Rattle.carried_landings.specs.Outside.{AllWait, AreOut}
use Rattle.seat_laws.specs.FreeSeat.{IsFreeSeat}
use Rattle.seat_turns.specs.Begun.{CarriesFor, IsNoFault}
use Rattle.seat_turns.specs.Steps.{AreUnspoken, seat_of}

-- what was out has landed: the seat has nothing open, and no reuse is due
pub record HasLandedOut (s t : History) (seat : Seat) : Type 0 where
  pub outcomes : List Outcome
  pub each : length outcomes ≡ length (carrier_of seat.0 s.past)
  pub landed : t.past ≡ landed_by s.config seat.0 (carrier_of seat.0 s.past) outcomes s.past
  pub same : t ≡ record s { past = t.past; spare = t.spare }
  pub calm : awaits_reuse t.past ≡ false
  pub none : carrier_of seat.0 t.past ≡ []

-- all of it failed, or the first read of a request's own page did
pub record WasLost (s t : History) (seat : ℕ) (own : Bool) : Type 0 where
  pub outcomes : List Outcome
  pub each : length outcomes ≡ length (carrier_of seat s.past)
  pub landed : t.past ≡ landed_by s.config seat (carrier_of seat s.past) outcomes s.past
  pub failed : (all_bad outcomes ≡ true) ⊎ ((own ≡ true) × (first_bad outcomes ≡ true))

-- the carrier is empty, and its seat may make a call
pub record MayStart {B : Type 0} (s : History) (c : CarrierView B) : Type 0 where
  pub free : IsFreeSeat s c.seat
  pub carrier : c ≡ empty c.seat

-- the next step for a request of a process may be made: its seat has nothing open, and the state isn't halted
pub record MayStep {B : Type 0} (s : History) (p : Proc) (x : Request) (c : CarrierView B) : Type 0 where
  pub process : p.0 < length s.config.procs
  pub formed : IsWellFormedRequest x
  pub known : IsRequestOf s.config.version x
  pub free : IsFreeSeat s (seat_of p)
  pub running : s.halted ≡ false
  pub carrier : c ≡ empty (seat_of p)

module _ {B : Type 0} (seen : B → BlockView) (tells : Tells) where
  -- it has made entries, if any, that answer nothing; what it has begun is in its carrier, and begins with no read of a
  -- page fault
  pub record HasWorked (s t : History) (seat : Seat) (c : CarrierView B) : Type 0 where
    pub made : List What
    pub history : t ≡ added_each seat made s
    pub unspoken : AreUnspoken made
    pub calm : awaits_reuse t.past ≡ false
    pub out : AreOut seen tells (base_of t) t.past seat c
    pub waits : AllWait c.lifts
    pub begun : (c.lifts ≡ [] → ⊥) → CarriesFor t.past seat.0 IsNoFault

  -- its seat has worked, if there was anything to do; else all is as before
  pub record HasTried (s t : History) (old new : CarrierView B) (some : Bool) : Type 0 where
    pub worked : HasWorked s t old.seat new
    pub none : some ≡ false → (t ≡ s) × (new ≡ old)
