-- What a seat has out stays out whatever entries other seats make.
use Rattle.std.proofs.Common.{◌≡◌, ℕ, Bool, false, true, cond, List, [], ◌∷◌, map, reverse, sym, ap, ◌∙◌, subst}
use Rattle.std.specs.Prelude.{Contains}
use Rattle.std.specs.List.{AllByRecursion}
use Rattle.std.proofs.lemmas.List.{reverse-reverse}
use Rattle.vm_types.specs.BlockView.{BlockView, Tells}
use Rattle.vm_types.specs.Configuration.{IsWellFormed}
use Rattle.vm_types.specs.declared.names.Seat.{Seat}
use Rattle.vm_journal.specs.Own.{own_entries}
use Rattle.vm_journal.specs.declared.entry.Entry.{Entry}
use Rattle.pager_model.specs.Flights.{Flight, open_flights, carrier_of}
use Rattle.pager_model.specs.Run.{IsRun}
use Rattle.pager_rules.proofs.Basics.{each_weaker}
use Rattle.content_laws.proofs.LiftsStay.{lifts_stay}
use Rattle.history_lock.specs.Known.{Known}
use Rattle.history_lock.specs.declared.view.View.{View}
use Rattle.frame_store.specs.LiftView.{LiftView}
use Rattle.lift_carriers.specs.CarrierView.{CarrierView}
use Rattle.lift_carriers.specs.LiftsFit.{LiftFits, lift_seen}
use Rattle.vm_state.specs.Based.{base_of, kept_entries}
use Rattle.vm_state.specs.History.{History}
use Rattle.vm_state.specs.declared.base.StateBase.{StateBase}
use Rattle.carried_landings.specs.Outside.{AreOut, IsOut}
use Rattle.carried_landings.specs.SeatFlights.{flight_place}
use Rattle.carried_landings.proofs.CarrierIsWhole.{AreFlightsOf, whole_flights}
use Rattle.carried_landings.proofs.SeatLandings.{carrier_by}
use Rattle.seat_laws.proofs.OtherSeats.{carrier_stays, lands_none}
use Rattle.vm_actors.proofs.Foreign.{IsForeign, all_foreign}
use Rattle.vm_actors.proofs.Onto.{onto, onto_reverse, run_onto}

-- a state that stands on this and has these entries
abbrev pub history_of : StateBase → List Entry → History
history_of b past = record { config = b.config; past = past; spare = 0; pool = b.pool; halted = false; keeps = b.keeps }

module _ {B : Type 0} (seen : B → BlockView) (tells : Tells) (b : StateBase) (formed : IsWellFormed b.config) (q : Seat) where
  abbrev Out : List Entry → LiftView B → Type 0
  Out past lift = IsOut seen tells b past lift

  abbrev Are : List Entry → CarrierView B → Type 0
  Are past c = AreOut seen tells b past q c

  -- ---- one entry of another seat
  module _ (e : Entry) (past : List Entry) (foreign : IsForeign q.0 e) (run : IsRun b.config (e ∷ past)) where
    each_stays : (xs : List Flight) (lifts : List (LiftView B)) → AreFlightsOf (open_flights past) xs lifts → AllByRecursion (λ (x : Flight). x.seat ≡ q.0) xs → AllByRecursion (Out past) lifts → AllByRecursion (Out (e ∷ past)) lifts
    each_stays [] [] are own out = tt
    each_stays [] (lift ∷ lifts) are own out = absurd are
    each_stays (x ∷ xs) [] are own out = absurd are
    each_stays (x ∷ xs) (lift ∷ lifts) are own out = (
      record {
        pool_is = out.0.pool_is;
        fits =
            lifts_stay tells.content tells.plan b.config past e (lift_seen seen lift) formed run
            (lands_none (e.seat).0 q.0 foreign b.config past e.what lift.start x run.1.row are.0 own.0) out.0.fits;
      },
      each_stays xs lifts are.1 own.1 out.1,
    )

    one_stays : (c : CarrierView B) → Are past c → Are (e ∷ past) c
    one_stays c old =
        let fit = each_weaker (Out past) (λ (lift : LiftView B). LiftFits seen tells b.config past lift) (λ lift out. out.fits) c.lifts old.each in
        record {
          own = old.own;
          each =
              each_stays (carrier_of q.0 past) c.lifts (whole_flights seen tells (history_of b past) q.0 c.lifts formed run.0 old.whole fit)
              (carrier_by q.0 past) old.each;
          whole = ap (map flight_place) (carrier_stays (e.seat).0 q.0 foreign b.config past e.what run.1.row) ∙ old.whole;
        }

  pub all_stay : (later past : List Entry) → AllByRecursion (IsForeign q.0) later → IsRun b.config (onto past later) → (c : CarrierView B) → Are past c → Are (onto past later) c
  all_stay [] past foreign run c old = old
  all_stay (e ∷ later) past foreign run c old = all_stay later (e ∷ past) foreign.1 run c (one_stays e past foreign.0 (run_onto b.config later (e ∷ past) run) c old)

-- ---- what a turn finds
pub kept_all : (s : History) → s.keeps ≡ true → kept_entries s ≡ reverse s.past
kept_all s keeps = ap (λ (b : Bool). cond b (reverse s.past) []) keeps

pub past_of : (s : History) → s.keeps ≡ true → s.past ≡ reverse (kept_entries s)
past_of s keeps = sym (reverse-reverse s.past) ∙ ap reverse (sym (kept_all s keeps))

-- the entries that are found are of other seats
pub found_foreign : (s : History) (v : View StateBase) (k : ℕ) (known : Known kept_entries base_of s v) → Contains v.numbers k → AllByRecursion (IsForeign k) known.begins.0
found_foreign s v k known has = all_foreign k v.seen known.begins.0 (ap (own_entries k) known.begins.1 ∙ known.own k has)

pub found_past : (s : History) (v : View StateBase) (keeps : s.keeps ≡ true) (known : Known kept_entries base_of s v) → s.past ≡ onto (reverse v.seen) known.begins.0
found_past s v keeps known = past_of s keeps ∙ (ap reverse (sym known.begins.1) ∙ onto_reverse v.seen known.begins.0)

pub stays_out : {B : Type 0} (seen : B → BlockView) (tells : Tells) (s : History) (v : View StateBase) (seat : Seat) (c : CarrierView B) → IsWellFormed s.config → IsRun s.config s.past → s.keeps ≡ true
    → Known kept_entries base_of s v → Contains v.numbers seat.0 → AreOut seen tells (base_of s) (reverse v.seen) seat c → AreOut seen tells (base_of s) s.past seat c
stays_out seen tells s v seat c formed run keeps known has old =
    let past_is = found_past s v keeps known in
    subst (λ (past : List Entry). AreOut seen tells (base_of s) past seat c) (sym past_is)
    (all_stay seen tells (base_of s) formed seat known.begins.0 (reverse v.seen) (found_foreign s v seat.0 known has) (subst (IsRun s.config) past_is run) c old)
