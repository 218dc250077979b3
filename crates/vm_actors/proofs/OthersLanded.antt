-- The other numbers of a pass have no open transfer, before its turns and after them.
use Rattle.std.proofs.Common.{◌≡◌, ℕ, Bool, false, true, List, [], ◌∷◌, Option, Some, None, length, map, nat_eq, reverse, refl, sym, ap, ◌∙◌, subst}
use Rattle.std.specs.Prelude.{Contains}
use Rattle.std.specs.List.{AllByRecursion}
use Rattle.std.proofs.lemmas.Bool.{eqb-true}
use Rattle.std.proofs.lemmas.List.{length-map, nil_from_length}
use Rattle.vm_types.specs.BlockView.{BlockView, Tells}
use Rattle.vm_types.specs.Configuration.{IsWellFormed}
use Rattle.vm_types.specs.declared.names.Seat.{Seat}
use Rattle.vm_journal.specs.declared.entry.Entry.{Entry}
use Rattle.vm_journal.specs.declared.entry.What.{What}
use Rattle.pager_policy.specs.Given.{by_seat, made_by}
use Rattle.pager_model.specs.Flights.{carrier_of}
use Rattle.pager_model.specs.Run.{IsRun}
use Rattle.history_lock.specs.Known.{Known}
use Rattle.history_lock.specs.declared.view.View.{View}
use Rattle.lift_carriers.specs.CarrierView.{CarrierView}
use Rattle.vm_state.specs.Based.{base_of, kept_entries}
use Rattle.vm_state.specs.History.{History}
use Rattle.vm_state.specs.declared.base.StateBase.{StateBase}
use Rattle.call_begins.specs.Lifted.{place_of}
use Rattle.call_begins.specs.MayBegin.{empty}
use Rattle.carried_landings.specs.Outside.{AreOut, NoneWaits}
use Rattle.carried_landings.specs.SeatFlights.{flight_place}
use Rattle.vm_actors.specs.Between.{IsBetweenTurns, NoOtherOpen, NoneOpen}
use Rattle.vm_actors.proofs.Foreign.{IsForeign}
use Rattle.vm_actors.proofs.Onto.{made_onto, onto}
use Rattle.vm_actors.proofs.StillOut.{all_stay, found_foreign, found_past}

-- ---- no transfer of a seat is open exactly if all of them are out in a carrier without lifts
pub none_out : {B : Type 0} (seen : B → BlockView) (tells : Tells) (b : StateBase) (past : List Entry) (seat : Seat) (c : CarrierView B) → c ≡ empty seat → carrier_of seat.0 past ≡ [] → AreOut seen tells b past seat c
none_out seen tells b past seat c is none =
    subst (AreOut seen tells b past seat) (sym is) (record { own = refl; each = tt; whole = ap (map flight_place) none })

pub out_none : {B : Type 0} {seen : B → BlockView} {tells : Tells} (b : StateBase) (past : List Entry) (seat : Seat) (c : CarrierView B) → c.lifts ≡ [] → AreOut seen tells b past seat c → carrier_of seat.0 past ≡ []
out_none b past seat c none out =
    nil_from_length (carrier_of seat.0 past) (sym (length-map (carrier_of seat.0 past) flight_place) ∙ ap length (out.whole ∙ ap (map place_of) none))

-- blocks of which nothing is seen
abbrev unseen : Unit {0} → BlockView
unseen x = record { content = None; plan = None; reads = 0; writes = 0; faults = 0 }

abbrev untold : Tells
untold = record { content = false; plan = false }

pub stays_landed : (b : StateBase) (k : ℕ) (later past : List Entry) → IsWellFormed b.config → AllByRecursion (IsForeign k) later → IsRun b.config (onto past later) → carrier_of k past ≡ [] → carrier_of k (onto past later) ≡ []
stays_landed b k later past formed foreign run none =
    let seat : Seat = record { 0 = k } in
    out_none b (onto past later) seat (empty seat) refl
    (all_stay unseen untold b formed seat later past foreign run (empty seat) (none_out unseen untold b past seat (empty seat) refl none))

made_foreign : (p k : ℕ) (ws : List What) → nat_eq p k ≡ false → AllByRecursion (IsForeign k) (map (by_seat p) ws)
made_foreign p k [] apart = tt
made_foreign p k (w ∷ ws) apart = (apart, made_foreign p k ws apart)

-- ---- from what the pass has seen to what its turn finds
pub others_found : (s : History) (v : View StateBase) (p : ℕ) → IsWellFormed s.config → IsRun s.config s.past → s.keeps ≡ true → Known kept_entries base_of s v → NoOtherOpen v.numbers p (reverse v.seen) → NoOtherOpen v.numbers p s.past
others_found s v p formed run keeps known landed k has apart =
    let past_is = found_past s v keeps known in
    subst (λ (past : List Entry). carrier_of k past ≡ []) (sym past_is)
    (stays_landed (base_of s) k known.begins.0 (reverse v.seen) formed (found_foreign s v k known has) (subst (IsRun s.config) past_is run) (landed k has apart))

-- and to what it leaves
pub others_left : (s t : History) (numbers : List ℕ) (p : ℕ) (ws : List What) → t.past ≡ made_by p ws s.past → t.config ≡ s.config → IsWellFormed s.config → IsRun t.config t.past → NoOtherOpen numbers p s.past → NoOtherOpen numbers p t.past
others_left s t numbers p ws made config_is formed run landed k has apart =
    let past_is : t.past ≡ onto s.past (map (by_seat p) ws) = made ∙ made_onto p ws s.past in
    let run_is : IsRun s.config (onto s.past (map (by_seat p) ws)) = subst (IsRun s.config) past_is (subst (λ c. IsRun c t.past) config_is run) in
    subst (λ (past : List Entry). carrier_of k past ≡ []) (sym past_is)
    (stays_landed (base_of s) k (map (by_seat p) ws) s.past formed (made_foreign p k ws apart) run_is (landed k has apart))

-- ---- all numbers
pub begin_begun : {B : Type 0} (seat : Seat) (c : CarrierView B) → c ≡ empty seat → (X : Type 0) → (c.lifts ≡ [] → ⊥) → X
begin_begun {B} seat c is X some = absurd (some (ap (λ (x : CarrierView B). x.lifts) is))

pub begin_others : (numbers : List ℕ) (p : ℕ) (journal : List Entry) → NoneOpen numbers journal → NoOtherOpen numbers p (reverse journal)
begin_others numbers p journal landed k has apart = landed k has

module _ {B : Type 0} (seen : B → BlockView) (tells : Tells) (seat : Seat) (c : CarrierView B) where
  pub begin_between : (Is : Option StateBase → Type 0) (base : Option StateBase) (journal : List Entry) (numbers : List ℕ) → (Is None → ⊥) → Is base → c ≡ empty seat → Contains numbers seat.0 → NoneOpen numbers journal → IsBetweenTurns seen tells base (reverse journal) seat c
  begin_between Is None journal numbers never is none has landed = absurd (never is)
  begin_between Is (Some b) journal numbers never is none has landed = record {
    out = none_out seen tells b (reverse journal) seat c none (landed seat.0 has);
    carried = subst (λ (x : CarrierView B). NoneWaits x.lifts) (sym none) tt;
  }

  -- nothing is in the carrier
  pub end_landed : (base : Option StateBase) (journal : List Entry) (numbers : List ℕ) → IsBetweenTurns seen tells base (reverse journal) seat c → c.lifts ≡ [] → NoOtherOpen numbers seat.0 (reverse journal) → NoneOpen numbers journal
  end_landed None journal numbers between none others k has = absurd between
  end_landed (Some b) journal numbers between none others k has = by (nat_eq seat.0 k) refl
    where
      by : (x : Bool) → nat_eq seat.0 k ≡ x → carrier_of k (reverse journal) ≡ []
      by false is = others k has is
      by true is = subst (λ (n : ℕ). carrier_of n (reverse journal) ≡ []) (eqb-true seat.0 k is) (out_none b (reverse journal) seat c none between.out)

  pub end_carrier : (base : Option StateBase) (past : List Entry) → IsBetweenTurns seen tells base past seat c → c.lifts ≡ [] → c ≡ empty seat
  end_carrier None past between none = absurd between
  end_carrier (Some b) past between none = λ i. record { seat = between.out.own i; lifts = none i }
