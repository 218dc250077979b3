-- The open transfers of a seat outside of the state: the seat's carrier has their lifts. This project's own.
use Rattle.std.specs.Prelude.{◌≡◌, List, map}
use Rattle.std.specs.List.{AllByRecursion}
use Rattle.vm_types.specs.BlockView.{BlockView, Tells}
use Rattle.vm_types.specs.declared.names.Seat.{Seat}
use Rattle.vm_journal.specs.declared.entry.Entry.{Entry}
use Rattle.pager_model.specs.Flights.{carrier_of}
use Rattle.frame_store.specs.LiftView.{LiftView}
use Rattle.frame_store.specs.declared.lift.Carried.TheVariants.{Waiting}
use Rattle.lift_carriers.specs.CarrierView.{CarrierView}
use Rattle.lift_carriers.specs.LiftsFit.{LiftFits}
use Rattle.vm_state.specs.declared.base.StateBase.{StateBase}
use Rattle.call_begins.specs.Lifted.{place_of}
use Rattle.carried_landings.specs.SeatFlights.{flight_place}

-- each of the lifts is still to be carried, or none is
abbrev pub AllWait : {B : Type 0} → List (LiftView B) → Type 0
AllWait {B} lifts = AllByRecursion (λ (lift : LiftView B). lift.result ≡ Waiting) lifts

abbrev pub NoneWaits : {B : Type 0} → List (LiftView B) → Type 0
NoneWaits {B} lifts = AllByRecursion (λ (lift : LiftView B). lift.result ≡ Waiting → ⊥) lifts

module _ {B : Type 0} (seen : B → BlockView) (tells : Tells) where
  -- the buffer is of the state's pool, and the lift fits the journal
  pub record IsOut (b : StateBase) (past : List Entry) (lift : LiftView B) : Type 0 where
    pub pool_is : lift.pool ≡ b.pool
    pub fits : LiftFits seen tells b.config past lift

  -- the seat's carrier has the lifts of all its open transfers, in the order in which they began
  pub record AreOut (b : StateBase) (past : List Entry) (seat : Seat) (c : CarrierView B) : Type 0 where
    pub own : c.seat ≡ seat
    pub each : AllByRecursion (IsOut b past) c.lifts
    pub whole : map flight_place (carrier_of seat.0 past) ≡ map place_of c.lifts
