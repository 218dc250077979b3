-- What has begun is out, and so is what was then carried.
use Rattle.std.proofs.Common.{◌≡◌, suc, List, [], ◌∷◌, ℕ, Some, length, map, refl, sym, ap, ◌∙◌, subst, arith}
use Rattle.std.specs.Prelude.{slice_get}
use Rattle.std.specs.List.{AllByRecursion}
use Rattle.vm_types.specs.BlockView.{BlockView, Tells}
use Rattle.vm_types.specs.declared.names.Seat.{Seat}
use Rattle.vm_journal.specs.declared.entry.Entry.{Entry}
use Rattle.pager_model.specs.Flights.{carrier_of}
use Rattle.pager_rules.proofs.Basics.{each_weaker}
use Rattle.frame_store.specs.LiftView.{LiftView}
use Rattle.frame_store.specs.declared.lift.Carried.TheVariants.{Waiting}
use Rattle.lift_carriers.specs.CarrierView.{CarrierView}
use Rattle.lift_carriers.specs.Carrying.{AreCarried, HasCarried}
use Rattle.lift_carriers.specs.LiftsFit.{LiftFits}
use Rattle.vm_state.specs.Based.{base_of}
use Rattle.vm_state.specs.History.{History}
use Rattle.vm_state.specs.declared.base.StateBase.{StateBase}
use Rattle.call_begins.specs.Lifted.{HasBegunLifts, IsBegun, place_of}
use Rattle.carried_landings.specs.Outside.{AllWait, AreOut, IsOut}
use Rattle.carried_landings.specs.SeatFlights.{flight_place}
use Rattle.carried_landings.proofs.CarriedLifts.{same_places}

module _ {B : Type 0} {seen : B → BlockView} {tells : Tells} where
  -- ---- what has begun
  module _ (s : History) (seat : Seat) (c : CarrierView B) (has : HasBegunLifts seen tells s seat c) where
    pub begun_wait : AllWait c.lifts
    begun_wait = each_weaker (IsBegun seen tells s seat) (λ (lift : LiftView B). lift.result ≡ Waiting) (λ lift begun. begun.waits) c.lifts has.begun

    pub begun_out : map flight_place (carrier_of seat.0 s.past) ≡ map place_of c.lifts → AreOut seen tells (base_of s) s.past seat c
    begun_out whole = record {
      own = has.own;
      each = each_weaker (IsBegun seen tells s seat) (IsOut seen tells (base_of s) s.past) (λ lift begun. record { pool_is = begun.pool_is; fits = begun.fits }) c.lifts has.begun;
      whole = whole;
    }

  -- ---- what was carried
  module _ (b : StateBase) (past : List Entry) where
    each_out : (old new : List (LiftView B)) → length new ≡ length old → ((k : ℕ) (x y : LiftView B) → slice_get old k ≡ Some x → slice_get new k ≡ Some y → HasCarried seen tells x y)
        → AllByRecursion (IsOut seen tells b past) old → AllByRecursion (LiftFits seen tells b.config past) new → AllByRecursion (IsOut seen tells b past) new
    each_out [] [] same each out fits = tt
    each_out [] (y ∷ new) same each out fits = absurd (omega (arith, same))
    each_out (x ∷ old) [] same each out fits = absurd (omega (arith, same))
    each_out (x ∷ old) (y ∷ new) same each out fits = (
      record { pool_is = ap (λ (lift : LiftView B). lift.pool) (each 0 x y refl refl).same ∙ out.0.pool_is; fits = fits.0 },
      each_out old new (omega (arith, same)) (λ k v w was now. each (suc k) v w was now) out.1 fits.1,
    )

    pub out_carried : (seat : Seat) (c d : CarrierView B) → d.seat ≡ c.seat → AreCarried seen tells c.lifts d.lifts → (AllByRecursion (LiftFits seen tells b.config past) c.lifts → AllByRecursion (LiftFits seen tells b.config past) d.lifts) → AreOut seen tells b past seat c → AreOut seen tells b past seat d
    out_carried seat c d own carried fit old = record {
      own = own ∙ old.own;
      each = each_out c.lifts d.lifts carried.count carried.each old.each (fit (each_weaker (IsOut seen tells b past) (LiftFits seen tells b.config past) (λ lift out. out.fits) c.lifts old.each));
      whole = old.whole ∙ sym (same_places seen tells c.lifts d.lifts carried);
    }

  -- by the seat that the carrier has itself
  pub own_out : (b : StateBase) (past : List Entry) (seat : Seat) (c : CarrierView B) → AreOut seen tells b past seat c → AreOut seen tells b past c.seat c
  own_out b past seat c out = subst (λ (z : Seat). AreOut seen tells b past z c) (sym out.own) out
