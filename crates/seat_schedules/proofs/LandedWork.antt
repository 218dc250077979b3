-- The landing of a seat's carrier, and a refusal, leave the seat at work.
use Rattle.std.proofs.Common.{◌≡◌, ◌<◌, Bool, true, false, List, [], ◌∷◌, Some, None, length, map, refl, sym, ap, ◌∙◌, subst, arith}
use Rattle.std.proofs.lemmas.Option.{none-some}
use Rattle.vm_types.specs.BlockView.{BlockView, Tells}
use Rattle.vm_types.specs.WellFormed.{IsWellFormedReference}
use Rattle.vm_types.specs.declared.names.Seat.{Seat}
use Rattle.vm_types.specs.declared.reference.Ref.{Ref}
use Rattle.vm_types.specs.declared.reply.Why.TheVariants as why
use Rattle.vm_journal.specs.declared.entry.Entry.{Entry}
use Rattle.vm_journal.specs.declared.entry.What.TheVariants as what
use Rattle.frame_store.specs.LiftView.{LiftView}
use Rattle.pager_model.specs.Flights.{awaits_reuse, is_busy, open_flights, carrier_of}
use Rattle.call_begins.proofs.Steps.{paid_after}
use Rattle.call_begins.specs.Lifted.{HasBegunLifts, place_of}
use Rattle.carried_landings.specs.HaveLanded.{HaveLanded}
use Rattle.carried_landings.specs.SeatFlights.{flight_place}
use Rattle.carried_landings.specs.declared.carrier_landed.CarrierLanded.{CarrierLanded}
use Rattle.lift_carriers.specs.CarrierView.{CarrierView}
use Rattle.vm_state.specs.History.{History, MayAdd, added, entry_by, pager}
use Rattle.seat_laws.specs.FreeSeat.{IsFreeSeat}
use Rattle.seat_schedules.specs.AtWork.{HasWorked, IsAtWork, IsFor, idle}
use Rattle.seat_laws.specs.Lost.{IsLost, IsReadFor}
use Rattle.seat_laws.specs.Unmet.{IsUnmet}
use Rattle.seat_schedules.specs.declared.worker.Worker.{Worker}
use Rattle.seat_laws.proofs.FreeSeats.{carries_none, not_busy}
use Rattle.seat_schedules.proofs.OwnWork.{still_worked}
use Rattle.seat_laws.proofs.Refusable.{landed_made, reads_lost, refusal_legal}

not_false : (b : Bool) → Rattle.std.proofs.Common.not b ≡ false → b ≡ true
not_false true is = refl
not_false false is = sym is

module _ {B : Type 0} {seen : B → BlockView} {tells : Tells} (s : History) (seat : Seat) (w : Worker B) (old : IsAtWork seen tells s seat w) where
  -- ---- what the landing asks for
  pub own_lifts : HasBegunLifts seen tells s w.carrier.seat w.carrier
  own_lifts = subst (λ (x : Seat). HasBegunLifts seen tells s x w.carrier) (sym old.lifts.own) old.lifts

  pub own_whole : map flight_place (carrier_of (w.carrier.seat).0 s.past) ≡ map place_of w.carrier.lifts
  own_whole = ap (λ (x : Seat). map flight_place (carrier_of x.0 s.past)) old.lifts.own ∙ old.whole

  -- ---- what it leaves
  module _ (t : History) (answer : CarrierLanded) (landed : HaveLanded s.config (w.carrier.seat).0 s.past t.past answer) (same : t ≡ record s { past = t.past; spare = t.spare }) (calm : awaits_reuse t.past ≡ false)
      (free : is_busy (w.carrier.seat).0 (open_flights t.past) ≡ false) (new : Worker B) (emptied : new.carrier ≡ record w.carrier { lifts = [] }) where
    landed_here : HaveLanded s.config seat.0 s.past t.past answer
    landed_here = subst (λ (x : Seat). HaveLanded s.config x.0 s.past t.past answer) old.lifts.own landed

    none_open : carrier_of seat.0 t.past ≡ []
    none_open = carries_none seat.0 t.past (subst (λ (x : Seat). is_busy x.0 (open_flights t.past) ≡ false) old.lifts.own free)

    none_lifted : new.carrier.lifts ≡ []
    none_lifted = ap (λ (c : CarrierView B). c.lifts) emptied

    pub landed_worked : ((r : Ref) → new.reference ≡ Some r → IsWellFormedReference r) → ((r : Ref) → new.reference ≡ Some r → IsLost t.past seat.0 r) → HasWorked seen tells s t seat new
    landed_worked formed lost =
        let made = landed_made s.config seat.0 (carrier_of seat.0 s.past) landed_here.outcomes s.past in
        record {
          made = made.0;
          past = landed_here.landed ∙ made.1;
          same = same;
          calm = calm;
          at_work = record {
            lifts = record {
              own = ap (λ (c : CarrierView B). c.seat) emptied ∙ old.lifts.own;
              begun = subst (λ (lifts : List (LiftView B)). Rattle.std.specs.List.AllByRecursion (Rattle.call_begins.specs.Lifted.IsBegun seen tells t seat) lifts) (sym none_lifted) tt;
            };
            whole = ap (map flight_place) none_open ∙ ap (map place_of) (sym none_lifted);
            formed = formed;
            waits = λ r is. subst (λ (lifts : List (LiftView B)). IsFor t.past seat.0 r lifts) (sym none_lifted) (lost r is);
          };
        }

    -- the first read didn't fail, and no reference is left
    pub landed_well : new.reference ≡ None → HasWorked seen tells s t seat new
    landed_well none = landed_worked (λ r some. absurd (none-some r (sym none ∙ some))) (λ r some. absurd (none-some r (sym none ∙ some)))

    -- or it failed
    pub landed_badly : new.reference ≡ w.reference → Rattle.std.proofs.Common.not answer.first_failed ≡ false → (0 < length w.carrier.lifts) → HasWorked seen tells s t seat new
    landed_badly kept failed some =
        landed_worked (λ r is. old.formed r (sym kept ∙ is))
        (λ r is. subst (λ (past : List Entry). IsLost past seat.0 r) (sym landed_here.landed)
        (reads_lost s.config s.past seat.0 r landed_here.outcomes (read r w.carrier.lifts some (old.waits r (sym kept ∙ is))) landed_here.each (sym landed_here.first_failed ∙ not_false answer.first_failed failed)))
      where
        read : (r : Ref) (lifts : List (LiftView B)) → 0 < length lifts → IsFor s.past seat.0 r lifts → IsReadFor s.past seat.0 r
        read r [] some reads = absurd (omega (arith, some))
        read r (lift ∷ lifts) some reads = reads

  -- ---- a refusal
  lost_of : (r : Ref) (lifts : List (LiftView B)) → lifts ≡ [] → IsFor s.past seat.0 r lifts → IsLost s.past seat.0 r
  lost_of r [] none is = is
  lost_of r (lift ∷ lifts) none is = absurd (cc)

  pub may_refuse : (r : Ref) → IsFreeSeat s seat → w.carrier.lifts ≡ [] → w.reference ≡ Some r → seat.0 < length s.config.procs → IsUnmet s.config (pager s) seat.0 r → MayAdd s (entry_by seat (what.Denied r why.DiskFault))
  may_refuse r free none is process unmet = record {
    legal = refusal_legal s.config s.past seat.0 r (record { idle = not_busy seat.0 s.past free.free; calm = free.calm }) process (old.formed r is) (lost_of r w.carrier.lifts none (old.waits r is)) unmet;
    paid = paid_after s.past (entry_by seat (what.Denied r why.DiskFault)) s.spare 1 refl refl (let room = free.room in omega (arith, room));
  }

  pub idle_again : w.carrier.lifts ≡ [] → record w { reference = None } ≡ idle seat
  idle_again none = λ i. record { carrier = record { seat = old.lifts.own i; lifts = none i }; reference = None }

  pub refused_worked : (r : Ref) → IsFreeSeat s seat → w.carrier.lifts ≡ [] → (t : History) → t ≡ added s (entry_by seat (what.Denied r why.DiskFault)) → HasWorked seen tells s t seat (record w { reference = None })
  refused_worked r free none t made = still_worked s seat free t (what.Denied r why.DiskFault ∷ []) made (tt, tt) (record w { reference = None }) (idle_again none)
