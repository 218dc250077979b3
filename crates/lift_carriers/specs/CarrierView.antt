-- What contracts see of a carrier, and when it takes one more lift. This project's own.
use Rattle.std.specs.Prelude.{◌≡◌, ◌<◌, List, [], ◌∷◌, ◌++◌, length}
use Rattle.std.specs.List.{AllByRecursion}
use Rattle.vm_types.specs.declared.names.Seat.{Seat}
use Rattle.frame_store.specs.LiftView.{LiftView}
use Rattle.frame_store.specs.declared.lift.Carried.TheVariants.{Waiting}

-- the seat, and the lifts in the order in which they began
pub record CarrierView (B : Type 0) : Type 0 where
  pub seat : Seat
  pub lifts : List (LiftView B)

abbrev pub taking : {B : Type 0} → CarrierView B → LiftView B → CarrierView B
taking c lift = record c { lifts = c.lifts ++ lift ∷ [] }

-- it is the seat's, has room for one lift more, and none of its lifts was carried yet
pub record CanTake {B : Type 0} (c : CarrierView B) (seat : Seat) : Type 0 where
  pub own : c.seat ≡ seat
  pub room : length c.lifts < 16
  pub waiting : AllByRecursion (λ (lift : LiftView B). lift.result ≡ Waiting) c.lifts
