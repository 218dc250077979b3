-- While a seat makes entries, every other seat stays at work as it was.
use Rattle.std.proofs.Common.{◌≡◌, ℕ, false, List, [], ◌∷◌, map, nat_eq, sym, ap, ◌∙◌, subst}
use Rattle.std.specs.List.{AllByRecursion}
use Rattle.vm_types.specs.BlockView.{BlockView, Tells}
use Rattle.vm_types.specs.Configuration.{IsWellFormed}
use Rattle.vm_types.specs.declared.config.Config.{Config}
use Rattle.vm_types.specs.declared.names.Seat.{Seat}
use Rattle.vm_types.specs.declared.reference.Ref.{Ref}
use Rattle.vm_journal.specs.declared.entry.Entry.{Entry}
use Rattle.vm_journal.specs.declared.entry.What.{What}
use Rattle.frame_store.specs.LiftView.{LiftView}
use Rattle.pager_model.specs.Carrier.{Carrying, carrying, is_lost}
use Rattle.pager_model.specs.Flights.{Flight, open_flights, carrier_of}
use Rattle.pager_policy.specs.Given.{by_seat, made_by}
use Rattle.pager_model.specs.Run.{IsRun}
use Rattle.content_laws.proofs.LiftsStay.{lifts_stay}
use Rattle.pager_rules.proofs.Basics.{each_weaker}
use Rattle.vm_state.specs.History.{History}
use Rattle.lift_carriers.specs.LiftsFit.{LiftFits, lift_seen}
use Rattle.call_begins.specs.Lifted.{IsBegun}
use Rattle.carried_landings.specs.SeatFlights.{flight_place}
use Rattle.carried_landings.proofs.CarrierIsWhole.{AreFlightsOf, whole_flights}
use Rattle.carried_landings.proofs.SeatLandings.{carrier_by}
use Rattle.seat_schedules.specs.AtWork.{HasWorked, IsAtWork, IsFor}
use Rattle.seat_laws.specs.Lost.{IsLost, IsReadFor}
use Rattle.seat_schedules.specs.declared.worker.Worker.{Worker}
use Rattle.seat_laws.proofs.OtherSeats.{carrier_stays, carrying_stays, lands_none}

-- ---- the reads for a reference, and lost ones
module _ (past now : List Entry) (seat : ℕ) (same : carrying seat now ≡ carrying seat past) where
  lost_stays : (r : Ref) → IsLost past seat r → IsLost now seat r
  lost_stays r old = record {
    lost = record { lost = ap is_lost same ∙ old.lost.lost; unspoken = ap (λ (c : Carrying). c.spoken_since) same ∙ old.lost.unspoken };
    named = λ x q at first is. old.named x q at (ap (λ (c : Carrying). c.first) (sym same) ∙ first) is;
  }

  module _ (flights : carrier_of seat now ≡ carrier_of seat past) where
    read_stays : (r : Ref) → IsReadFor past seat r → IsReadFor now seat r
    read_stays r old = record {
      first = old.first;
      more = old.more;
      carries = record {
        firsts = ap (λ (c : Carrying). c.first) same ∙ old.carries.firsts;
        begun = ap (λ (c : Carrying). c.begun) same ∙ old.carries.begun;
        none_landed = ap (λ (c : Carrying). c.landed) same ∙ old.carries.none_landed;
        none_failed = ap (λ (c : Carrying). c.failed) same ∙ old.carries.none_failed;
        unspoken = ap (λ (c : Carrying). c.spoken_since) same ∙ old.carries.unspoken;
      };
      carrier = flights ∙ old.carrier;
      own_page = old.own_page;
    }

    for_stays : {B : Type 0} (r : Ref) (lifts : List (LiftView B)) → IsFor past seat r lifts → IsFor now seat r lifts
    for_stays r [] old = lost_stays r old
    for_stays r (lift ∷ lifts) old = read_stays r old

abbrev at : History → List Entry → ℕ → History
at s past spare = record s { past = past; spare = spare }

run_made : (config : Config) (seat : ℕ) (ws : List What) (past : List Entry) → IsRun config (made_by seat ws past) → IsRun config past
run_made config seat [] past run = run
run_made config seat (w ∷ ws) past run = (run_made config seat ws (by_seat seat w ∷ past) run).0

module _ {B : Type 0} (seen : B → BlockView) (tells : Tells) (s : History) where
  abbrev Begun : List Entry → ℕ → Seat → LiftView B → Type 0
  Begun past spare seat lift = IsBegun seen tells (at s past spare) seat lift

  abbrev Works : List Entry → ℕ → Seat → Worker B → Type 0
  Works past spare seat w = IsAtWork seen tells (at s past spare) seat w

  -- ---- other spare places
  pub respared : (past : List Entry) (m n : ℕ) (q : Seat) (w : Worker B) → Works past m q w → Works past n q w
  respared past m n q w old = record {
    lifts = record {
      own = old.lifts.own;
      begun = each_weaker (Begun past m q) (Begun past n q) (λ lift begun. record { seat_is = begun.seat_is; pool_is = begun.pool_is; waits = begun.waits; fits = begun.fits }) w.carrier.lifts old.lifts.begun;
    };
    whole = old.whole;
    formed = old.formed;
    waits = old.waits;
  }

  -- ---- one entry of another seat
  module _ (formed : IsWellFormed s.config) (p q : Seat) (apart : nat_eq p.0 q.0 ≡ false) (spare : ℕ) where
    module _ (w : What) (past : List Entry) (run : IsRun s.config (by_seat p.0 w ∷ past)) where
      each_stays : (xs : List Flight) (lifts : List (LiftView B)) → AreFlightsOf (open_flights past) xs lifts → AllByRecursion (λ (x : Flight). x.seat ≡ q.0) xs → AllByRecursion (Begun past spare q) lifts → AllByRecursion (Begun (by_seat p.0 w ∷ past) spare q) lifts
      each_stays [] [] are own begun = tt
      each_stays [] (lift ∷ lifts) are own begun = absurd are
      each_stays (x ∷ xs) [] are own begun = absurd are
      each_stays (x ∷ xs) (lift ∷ lifts) are own begun = (
        record {
          seat_is = begun.0.seat_is;
          pool_is = begun.0.pool_is;
          waits = begun.0.waits;
          fits =
              lifts_stay tells.content tells.plan s.config past (by_seat p.0 w) (lift_seen seen lift) formed run
              (lands_none p.0 q.0 apart s.config past w lift.start x run.1.row are.0 own.0) begun.0.fits;
        },
        each_stays xs lifts are.1 own.1 begun.1,
      )

      one_stays : (x : Worker B) → Works past spare q x → Works (by_seat p.0 w ∷ past) spare q x
      one_stays x old =
          let flights : carrier_of q.0 (by_seat p.0 w ∷ past) ≡ carrier_of q.0 past = carrier_stays p.0 q.0 apart s.config past w run.1.row in
          let fit = each_weaker (Begun past spare q) (λ (lift : LiftView B). LiftFits seen tells s.config past lift) (λ lift begun. begun.fits) x.carrier.lifts old.lifts.begun in
          record {
            lifts = record {
              own = old.lifts.own;
              begun =
                  each_stays (carrier_of q.0 past) x.carrier.lifts
                  (whole_flights seen tells (at s past spare) q.0 x.carrier.lifts formed run.0 old.whole fit)
                  (carrier_by q.0 past) old.lifts.begun;
            };
            whole = ap (map flight_place) flights ∙ old.whole;
            formed = old.formed;
            waits = λ r is. for_stays past (by_seat p.0 w ∷ past) q.0 (carrying_stays p.0 q.0 apart past w) flights r x.carrier.lifts (old.waits r is);
          }

    all_stay : (ws : List What) (past : List Entry) → IsRun s.config (made_by p.0 ws past) → (x : Worker B) → Works past spare q x → Works (made_by p.0 ws past) spare q x
    all_stay [] past run x old = old
    all_stay (w ∷ ws) past run x old = all_stay ws (by_seat p.0 w ∷ past) run x (one_stays w past (run_made s.config p.0 ws (by_seat p.0 w ∷ past) run) x old)

-- ---- all that another seat does
pub other_at_work : {B : Type 0} {seen : B → BlockView} {tells : Tells} (s t : History) (p q : Seat) (w x : Worker B) → nat_eq p.0 q.0 ≡ false → IsWellFormed s.config → IsRun t.config t.past
    → HasWorked seen tells s t p w → IsAtWork seen tells s q x → IsAtWork seen tells t q x
other_at_work {B} {seen} {tells} s t p q w x apart formed run worked old =
    let config_is : t.config ≡ s.config = ap (λ (u : History). u.config) worked.same in
    let run_is : IsRun s.config (made_by p.0 worked.made s.past) = subst (IsRun s.config) worked.past (subst (λ (c : Config). IsRun c t.past) config_is run) in
    let kept = all_stay seen tells s formed p q apart s.spare worked.made s.past run_is x old in
    subst (λ (u : History). IsAtWork seen tells u q x) (sym worked.same)
    (respared seen tells s t.past s.spare t.spare q x (subst (λ (past : List Entry). IsAtWork seen tells (at s past s.spare) q x) (sym worked.past) kept))
