-- A whole carrier that was carried may land, and what its landing leaves.
use Rattle.std.proofs.Common.{◌≡◌, ◌+◌, ◌≤◌, false, length, map, nat_eq, refl, sym, ap, ◌∙◌, subst}
use Rattle.std.specs.List.{AllByRecursion}
use Rattle.std.proofs.lemmas.List.{length-map}
use Rattle.vm_types.specs.BlockView.{BlockView, Tells}
use Rattle.vm_types.specs.Configuration.{IsWellFormed}
use Rattle.pager_model.specs.Flights.{awaits_reuse, is_busy, open_flights, carrier_of}
use Rattle.pager_model.specs.Run.{IsRun}
use Rattle.pager_rules.proofs.Basics.{each_weaker}
use Rattle.frame_store.specs.LiftView.{LiftView}
use Rattle.lift_carriers.specs.CarrierView.{CarrierView}
use Rattle.lift_carriers.specs.Counted.{counted}
use Rattle.lift_carriers.specs.LiftsFit.{LiftFits}
use Rattle.lift_carriers.specs.declared.landed.Landed.{Landed}
use Rattle.vm_state.specs.Based.{base_of}
use Rattle.vm_state.specs.History.{History, owed}
use Rattle.vm_state.specs.LiftsLand.{CarrierMayLand, landed_each}
use Rattle.call_begins.specs.Lifted.{place_of}
use Rattle.carried_landings.specs.HaveLanded.{HaveLanded}
use Rattle.carried_landings.specs.Outside.{AreOut, IsOut, NoneWaits}
use Rattle.carried_landings.specs.SeatFlights.{flight_place, of_others}
use Rattle.carried_landings.specs.declared.carrier_landed.CarrierLanded.{CarrierLanded}
use Rattle.carried_landings.proofs.AllLand.{HaveAllLanded, after_lifts, all_land, outcomes_of, past_lifts, same_lifts}
use Rattle.carried_landings.proofs.CarrierIsWhole.{AreFlightsOf, apart_starts, may_land, whole_flights}
use Rattle.carried_landings.proofs.Failures.{all_failed, first_failed_is}
use Rattle.carried_landings.proofs.LandingsAgree.{outcome_of}
use Rattle.carried_landings.proofs.Paid.{paid_carrier, paid_lifts}
use Rattle.carried_landings.proofs.SeatLandings.{others_idle}

module _ {B : Type 0} {seen : B → BlockView} {tells : Tells} (s : History) (c : CarrierView B) (out : AreOut seen tells (base_of s) s.past c.seat c) (formed : IsWellFormed s.config) (run : IsRun s.config s.past) where
  abbrev FitsNow : LiftView B → Type 0
  FitsNow lift = LiftFits seen tells s.config s.past lift

  fit : AllByRecursion FitsNow c.lifts
  fit = each_weaker (IsOut seen tells (base_of s) s.past) FitsNow (λ lift is. is.fits) c.lifts out.each

  pools : AllByRecursion (λ (lift : LiftView B). lift.pool ≡ s.pool) c.lifts
  pools = each_weaker (IsOut seen tells (base_of s) s.past) (λ (lift : LiftView B). lift.pool ≡ s.pool) (λ lift is. is.pool_is) c.lifts out.each

  flights : AreFlightsOf (open_flights s.past) (carrier_of (c.seat).0 s.past) c.lifts
  flights = whole_flights seen tells s (c.seat).0 c.lifts formed run out.whole fit

  pub carrier_may : awaits_reuse s.past ≡ false → NoneWaits c.lifts → CarrierMayLand seen tells s c
  carrier_may calm carried = may_land seen tells s c flights calm fit carried pools

  -- ---- it has landed
  module _ (t : History) (landed : t ≡ landed_each c.seat c.lifts s) (run_then : IsRun t.config t.past) where
    pub same : t ≡ record s { past = t.past; spare = t.spare }
    same = subst (λ (u : History). u ≡ record s { past = u.past; spare = u.spare }) (sym landed) (same_lifts c.seat c.lifts s)

    past_is : t.past ≡ after_lifts (c.seat).0 c.lifts s.past
    past_is = ap (λ (u : History). u.past) landed ∙ past_lifts c.seat c.lifts s

    all : HaveAllLanded s.config (c.seat).0 (carrier_of (c.seat).0 s.past) c.lifts s.past
    all =
        all_land seen tells s.config formed (c.seat).0 (carrier_of (c.seat).0 s.past) c.lifts s.past refl flights fit
        (apart_starts seen tells s (c.seat).0 c.lifts flights)
        (subst (IsRun s.config) past_is (subst (λ (u : History). IsRun u.config t.past) same run_then))

    pub others : open_flights t.past ≡ of_others (c.seat).0 (open_flights s.past)
    others = ap open_flights past_is ∙ all.others

    pub idle : is_busy (c.seat).0 (open_flights t.past) ≡ false
    idle = ap (is_busy (c.seat).0) others ∙ others_idle (c.seat).0 (open_flights s.past)

    pub spare : owed s.past ≤ s.spare → t.spare + length t.past ≡ s.spare + length s.past
    spare paid = ap (λ (u : History). u.spare + length u.past) landed ∙ paid_lifts c.seat c.lifts s (paid_carrier c.seat c.lifts s out.whole paid)

    pub have_landed : (count : Landed) → count ≡ counted c.lifts → (answer : CarrierLanded) → answer.all_failed ≡ nat_eq count.good 0 → answer.first_failed ≡ count.first_bad → HaveLanded s.config (c.seat).0 s.past t.past answer
    have_landed count counts answer all_is first_is = record {
      outcomes = outcomes_of c.lifts;
      each = length-map c.lifts (λ (lift : LiftView B). outcome_of lift.result) ∙ (sym (length-map c.lifts place_of) ∙ (ap length (sym out.whole) ∙ length-map (carrier_of (c.seat).0 s.past) flight_place));
      landed = past_is ∙ all.past_is;
      all_failed = all_is ∙ (ap (λ (x : Landed). nat_eq x.good 0) counts ∙ all_failed c.lifts);
      first_failed = first_is ∙ (ap (λ (x : Landed). x.first_bad) counts ∙ first_failed_is c.lifts);
    }
