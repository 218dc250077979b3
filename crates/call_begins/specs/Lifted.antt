-- The lifts of the transfers that a call began. This project's own.
use Rattle.std.specs.Prelude.{◌≡◌, ℕ, List, [], ◌∷◌, map}
use Rattle.std.specs.List.{AllByRecursion}
use Rattle.vm_types.specs.BlockView.{BlockView, Tells}
use Rattle.vm_types.specs.declared.names.BlockId.{BlockId}
use Rattle.vm_types.specs.declared.names.Seat.{Seat}
use Rattle.vm_journal.specs.declared.entry.What.{What}
use Rattle.vm_journal.specs.declared.entry.What.TheVariants as what
use Rattle.frame_store.specs.LiftView.{LiftView}
use Rattle.frame_store.specs.declared.lift.Carried.TheVariants.{Waiting}
use Rattle.lift_carriers.specs.CarrierView.{CarrierView}
use Rattle.vm_state.specs.History.{History}
use Rattle.lift_carriers.specs.LiftsFit.{LiftFits}

-- the frame and the block of each read and of each write that begins among the entries, in their order
abbrev pub places_in : List What → List (ℕ × BlockId)
places_in [] = []
places_in (what.In f block role ∷ ws) = (f.0, block) ∷ places_in ws
places_in (what.Out f block ∷ ws) = (f.0, block) ∷ places_in ws
places_in (other ∷ ws) = places_in ws

abbrev pub place_of : {B : Type 0} → LiftView B → ℕ × BlockId
place_of lift = (lift.frame, lift.block)

module _ {B : Type 0} (seen : B → BlockView) where
  -- a transfer of this seat that waits to be carried, with a buffer of the state's pool, and that fits the journal
  pub record IsBegun (tells : Tells) (s : History) (seat : Seat) (lift : LiftView B) : Type 0 where
    pub seat_is : lift.seat ≡ seat
    pub pool_is : lift.pool ≡ s.pool
    pub waits : lift.result ≡ Waiting
    pub fits : LiftFits seen tells s.config s.past lift

  -- a carrier of this seat whose lifts are begun, and fit the journal
  pub record HasBegunLifts (tells : Tells) (s : History) (seat : Seat) (c : CarrierView B) : Type 0 where
    pub own : c.seat ≡ seat
    pub begun : AllByRecursion (IsBegun tells s seat) c.lifts

  -- the lifts of the transfers that begin among the entries, and no others
  pub record HasLifts (tells : Tells) (s : History) (seat : Seat) (made : List What) (c : CarrierView B) : Type 0 where
    pub own : c.seat ≡ seat
    pub each : map place_of c.lifts ≡ places_in made
    pub begun : AllByRecursion (IsBegun tells s seat) c.lifts
