-- What the landing of a carrier adds to the journal, and when it may land. This project's own.
use Rattle.std.specs.Prelude.{◌≡◌, ℕ, Bool, true, false, List, [], ◌∷◌, nat_eq}
use Rattle.std.specs.List.{AllByRecursion}
use Rattle.vm_types.specs.BlockView.{BlockView, Tells}
use Rattle.vm_types.specs.declared.names.Page.{Page}
use Rattle.vm_types.specs.declared.names.Seat.{Seat}
use Rattle.vm_journal.specs.declared.entry.What.{What}
use Rattle.vm_journal.specs.declared.entry.What.TheVariants as what
use Rattle.pager_model.specs.Flights.{awaits_reuse}
use Rattle.pager_model.specs.Maps.{pfn}
use Rattle.frame_store.specs.LiftView.{LiftView}
use Rattle.frame_store.specs.declared.lift.Carried.{Carried}
use Rattle.frame_store.specs.declared.lift.Carried.TheVariants.{Waiting, Bad}
use Rattle.lift_carriers.specs.CarrierView.{CarrierView}
use Rattle.vm_state.specs.History.{History, added, entry_by}
use Rattle.vm_state.specs.Landings.{landing_of}
use Rattle.lift_carriers.specs.LiftsFit.{LiftFits}

-- a read that failed is followed by the reuse of its frame
abbrev pub reuse_after : Bool → Carried → ℕ → Page → List What
reuse_after true (Bad before after) f page = what.Reuse (pfn f) page ∷ []
reuse_after is_read result f page = []

-- what a lift adds when it lands
abbrev pub landings_of : {B : Type 0} → LiftView B → List What
landings_of lift = landing_of lift ∷ reuse_after lift.is_read lift.result lift.frame lift.page

-- a seat adds entries, in their order
abbrev pub added_each : Seat → List What → History → History
added_each seat [] s = s
added_each seat (w ∷ ws) s = added_each seat ws (added s (entry_by seat w))

-- lifts land, in their order
abbrev pub landed_each : {B : Type 0} → Seat → List (LiftView B) → History → History
landed_each seat [] s = s
landed_each seat (lift ∷ lifts) s = landed_each seat lifts (added_each seat (landings_of lift) s)

-- no two lifts have one start
abbrev pub HaveOwnStarts : {B : Type 0} → List (LiftView B) → Type 0
HaveOwnStarts [] = Unit {0}
HaveOwnStarts {B} (lift ∷ lifts) = AllByRecursion (λ (other : LiftView B). nat_eq lift.start other.start ≡ false) lifts × HaveOwnStarts lifts

module _ {B : Type 0} (seen : B → BlockView) (tells : Tells) where
  -- it was carried and fits the journal, its transfer is one of the seat's, and its buffer is of the state's pool
  pub record MayLand (s : History) (seat : Seat) (lift : LiftView B) : Type 0 where
    pub carried : lift.result ≡ Waiting → ⊥
    pub fits : LiftFits seen tells s.config s.past lift
    pub own : (fits.0).seat ≡ seat.0
    pub pool : lift.pool ≡ s.pool

  -- each lift of a carrier may land, and no frame is in read error
  pub record CarrierMayLand (s : History) (c : CarrierView B) : Type 0 where
    pub calm : awaits_reuse s.past ≡ false
    pub each : AllByRecursion (MayLand s c.seat) c.lifts
    pub apart : HaveOwnStarts c.lifts

  -- one lift has landed: no frame is in read error, and every other lift that might land still may
  pub record HasLanded (seat : Seat) (lift : LiftView B) (s t : History) : Type 0 where
    pub now : t ≡ added_each seat (landings_of lift) s
    pub calm : awaits_reuse t.past ≡ false
    pub others : (other : LiftView B) → nat_eq lift.start other.start ≡ false → MayLand s seat other → MayLand t seat other
