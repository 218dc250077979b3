-- What a turn finds, and what the pass has seen after it.
use Rattle.std.proofs.Common.{◌≡◌, ℕ, ◌+◌, Bool, true, false, not, List, [], ◌∷◌, ◌++◌, Option, Some, None, length, map, reverse, refl, sym, ap, ◌∙◌, subst, arith, append_assoc}
use Rattle.std.specs.Prelude.{All, Contains}
use Rattle.std.proofs.lemmas.Bool.{not-true}
use Rattle.std.proofs.lemmas.List.{length-map, nil_from_length, reverse-reverse}
use Rattle.vm_types.specs.BlockView.{BlockView, Tells}
use Rattle.vm_types.specs.Configuration.{IsWellFormed}
use Rattle.vm_types.specs.declared.config.Config.{Config}
use Rattle.vm_types.specs.declared.names.Seat.{Seat}
use Rattle.vm_types.specs.declared.service.Request.{Request}
use Rattle.vm_journal.specs.Own.{own_entries}
use Rattle.vm_journal.specs.declared.entry.Entry.{Entry}
use Rattle.vm_journal.specs.declared.entry.What.{What}
use Rattle.pager_model.specs.Flights.{awaits_reuse}
use Rattle.pager_policy.specs.Given.{by_seat, made_by}
use Rattle.pager_model.specs.Run.{IsRun, pager_after}
use Rattle.pager_model.specs.Spoken.{IsRight}
use Rattle.history_lock.specs.Known.{Adds, Known}
use Rattle.history_lock.specs.declared.view.View.{View}
use Rattle.lift_carriers.specs.CarrierView.{CarrierView}
use Rattle.vm_state.specs.Based.{base_of, kept_entries}
use Rattle.vm_state.specs.History.{History, pager}
use Rattle.vm_state.specs.declared.base.StateBase.{StateBase}
use Rattle.carried_landings.specs.Outside.{AreOut, NoneWaits}
use Rattle.seat_turns.specs.Steps.{HasTurned}
use Rattle.seat_turns.specs.declared.turned.Turned.{Turned}
use Rattle.vm_actors.specs.Between.{IsBetweenTurns, IsCalm, IsJournalOf, NoOtherOpen}
use Rattle.vm_actors.specs.Doings.{HasRested, AreBegunFor, Knows, RestsAt}
use Rattle.vm_actors.specs.OwnEntries.{GoesOnWith, IsNone, IsSome, MadeNone, MadeSome, TurnEntries, own_of}
use Rattle.vm_actors.specs.declared.doing.Doing.{Doing}
use Rattle.vm_actors.proofs.Onto.{made_last}
use Rattle.vm_actors.proofs.OthersLanded.{others_found, others_left}
use Rattle.vm_actors.proofs.OwnTurns.{all_own, all_owned, none_own, own_append, turn_entries}
use Rattle.vm_actors.proofs.StillBegun.{stays_begun}
use Rattle.vm_actors.proofs.StillOut.{found_foreign, kept_all, past_of, stays_out}

made_length : (seat : ℕ) (ws : List What) (past : List Entry) → length (made_by seat ws past) ≡ length ws + length past
made_length seat [] past = omega arith
made_length seat (w ∷ ws) past = (let rest = made_length seat ws (by_seat seat w ∷ past) in omega (arith, rest))

-- ---- a turn that is kept, and one that was given up
pub calm_here : (s t : History) (calm : Bool) → s ≡ t → calm ≡ not (awaits_reuse s.past) → calm ≡ true → awaits_reuse t.past ≡ false
calm_here s t calm same told is = subst (λ (x : History). awaits_reuse x.past ≡ false) same (not-true (awaits_reuse s.past) (sym told ∙ is))

pub known_then : (s x : History) (v w : View StateBase) → Known kept_entries base_of s v → w.seen ≡ kept_entries s → w.numbers ≡ v.numbers → w.base ≡ v.base → Known kept_entries base_of x w → Known kept_entries base_of x v
known_then s x v w known seen numbers base found = record {
  base_is = sym base ∙ found.base_is;
  begins = (
    known.begins.0 ++ found.begins.0,
    sym (append_assoc v.seen known.begins.0 found.begins.0) ∙ (ap (λ (es : List Entry). es ++ found.begins.0) (known.begins.1 ∙ sym seen) ∙ found.begins.1),
  );
  own = λ k has. found.own k (subst (λ (ns : List ℕ). Contains ns k) (sym numbers) has) ∙ (ap (λ (es : List Entry). own_entries k es) seen ∙ known.own k has);
}

module _ (s : History) (v : View StateBase) (known : Known kept_entries base_of s v) (Is : Config → Type 0) (knows : Knows Is v.base) where
  knows_here : Knows Is (Some (base_of s))
  knows_here = subst (λ (base : Option StateBase). Knows Is base) known.base_is knows

  pub keeps : s.keeps ≡ true
  keeps = knows_here.0

  pub there : Is s.config
  there = knows_here.1

  -- ---- what the turn finds
  pub found_out : {B : Type 0} {seen : B → BlockView} {tells : Tells} (seat : Seat) (c : CarrierView B) → IsWellFormed s.config → IsRun s.config s.past → Contains v.numbers seat.0 → IsBetweenTurns seen tells v.base (reverse v.seen) seat c → AreOut seen tells (base_of s) s.past seat c
  found_out {seen = seen} {tells = tells} seat c formed run has between =
      stays_out seen tells s v seat c formed run keeps known has
      (subst (λ (base : Option StateBase). IsBetweenTurns seen tells base (reverse v.seen) seat c) known.base_is between).out

  pub found_begun : (seat : Seat) (doing : Doing) (own : Bool) → IsRun s.config s.past → Contains v.numbers seat.0 → AreBegunFor (reverse v.seen) seat doing own → AreBegunFor s.past seat doing own
  found_begun seat doing own run has begun = stays_begun s v seat doing own run keeps known has begun

pub all_carried : {B : Type 0} (seen : B → BlockView) (tells : Tells) (base : Option StateBase) (past : List Entry) (seat : Seat) (c : CarrierView B) → IsBetweenTurns seen tells base past seat c → NoneWaits c.lifts
all_carried seen tells None past seat c between = absurd between
all_carried seen tells (Some b) past seat c between = between.carried

-- ---- what it leaves
module _ {B : Type 0} {seen : B → BlockView} {tells : Tells} (s : History) (v : View StateBase) (known : Known kept_entries base_of s v) (kept : s.keeps ≡ true) (seat : Seat) (has : Contains v.numbers seat.0) (t : History) (o : Option Request) (turned : Turned) (c : CarrierView B) (has_turned : HasTurned seen tells s t seat o turned c) where
  base_still : base_of t ≡ base_of s
  base_still = ap base_of has_turned.same

  keeps_still : t.keeps ≡ true
  keeps_still = ap (λ (u : History). u.keeps) has_turned.same ∙ kept

  journal_after : kept_entries s ++ map (by_seat seat.0) has_turned.made ≡ kept_entries t
  journal_after =
      let now : t.past ≡ reverse (kept_entries s ++ map (by_seat seat.0) has_turned.made) = has_turned.past ∙ (ap (made_by seat.0 has_turned.made) (past_of s kept) ∙ made_last seat.0 has_turned.made (kept_entries s)) in
      sym (kept_all t keeps_still ∙ (ap reverse now ∙ reverse-reverse (kept_entries s ++ map (by_seat seat.0) has_turned.made)))

  pub base_left : (base : Option StateBase) → base ≡ v.base → base ≡ Some (base_of t)
  base_left base is = is ∙ (known.base_is ∙ ap Some (sym base_still))

  pub adds : (w : View StateBase) → w.seen ≡ kept_entries s → w.numbers ≡ v.numbers → Adds w (kept_entries t)
  adds w seen_is numbers = (
    map (by_seat seat.0) has_turned.made,
    ap (λ (es : List Entry). es ++ map (by_seat seat.0) has_turned.made) seen_is ∙ journal_after,
    subst (λ (ns : List ℕ). All (λ (e : Entry). Contains ns ((e.seat).0)) (map (by_seat seat.0) has_turned.made)) (sym numbers) (all_owned v.numbers seat has has_turned.made),
  )

  -- of the pass's numbers there are the entries of the turn alone
  goes_on : (Are : List Entry → Type 0) → Are (map (by_seat seat.0) has_turned.made) → (journal : List Entry) → journal ≡ kept_entries t → GoesOnWith Are v.numbers v.seen journal
  goes_on Are made journal is = record {
    later = known.begins.0 ++ map (by_seat seat.0) has_turned.made;
    whole = sym (append_assoc v.seen known.begins.0 (map (by_seat seat.0) has_turned.made)) ∙ (ap (λ (es : List Entry). es ++ map (by_seat seat.0) has_turned.made) known.begins.1 ∙ (journal_after ∙ sym is));
    own = subst Are (sym own) made;
  }
    where
      own : own_of v.numbers (known.begins.0 ++ map (by_seat seat.0) has_turned.made) ≡ map (by_seat seat.0) has_turned.made
      own =
          own_append v.numbers known.begins.0 (map (by_seat seat.0) has_turned.made)
          ∙ (ap (λ (es : List Entry). es ++ own_of v.numbers (map (by_seat seat.0) has_turned.made)) (none_own v.numbers known.begins.0 (λ k one. found_foreign s v k known one))
          ∙ all_own v.numbers seat has has_turned.made)

  pub taken : (journal : List Entry) → journal ≡ kept_entries t → GoesOnWith (TurnEntries seat turned o) v.numbers v.seen journal
  taken = goes_on (TurnEntries seat turned o) (turn_entries v.numbers seat has turned o has_turned.made has_turned.answers)

  -- whether there are any
  longer : length t.past ≡ length has_turned.made + length s.past
  longer = ap length has_turned.past ∙ made_length seat.0 has_turned.made s.past

  pub made_none : length t.past ≡ length s.past → (journal : List Entry) → journal ≡ kept_entries t → MadeNone v.numbers v.seen journal
  made_none same = goes_on IsNone (ap (map (by_seat seat.0)) (nil_from_length has_turned.made (let more = longer in omega (arith, same, more))))

  pub made_some : (length t.past ≡ length s.past → ⊥) → (journal : List Entry) → journal ≡ kept_entries t → MadeSome v.numbers v.seen journal
  made_some apart = goes_on IsSome (λ none. apart (let count = sym (length-map has_turned.made (by_seat seat.0)) ∙ ap length none in let more = longer in omega (arith, count, more)))

  -- ---- where the pass stands then
  pub past_left : (journal : List Entry) → journal ≡ kept_entries t → t.past ≡ reverse journal
  past_left journal is = past_of t keeps_still ∙ ap reverse (sym is)

  pub between_left : (base : Option StateBase) → base ≡ v.base → (journal : List Entry) → journal ≡ kept_entries t → (d : CarrierView B) → NoneWaits d.lifts → ((b : StateBase) (past : List Entry) (z : Seat) → AreOut seen tells b past z c → AreOut seen tells b past z d) → IsBetweenTurns seen tells base (reverse journal) seat d
  between_left base base_is journal is d carried out =
      subst (λ (x : Option StateBase). IsBetweenTurns seen tells x (reverse journal) seat d) (sym (base_left base base_is))
      (record { out = subst (λ (past : List Entry). AreOut seen tells (base_of t) past seat d) (past_left journal is) (out (base_of t) t.past seat has_turned.out); carried = carried })

  pub begun_left : (journal : List Entry) → journal ≡ kept_entries t → (d : CarrierView B) → (c.lifts ≡ [] → d.lifts ≡ []) → (doing : Doing) (own : Bool) → ((c.lifts ≡ [] → ⊥) → AreBegunFor t.past seat doing own) → (d.lifts ≡ [] → ⊥) → AreBegunFor (reverse journal) seat doing own
  begun_left journal is d none doing own begun some =
      subst (λ (past : List Entry). AreBegunFor past seat doing own) (past_left journal is) (begun (λ old. some (none old)))

  pub others_left_open : IsWellFormed s.config → IsRun s.config s.past → IsRun t.config t.past → NoOtherOpen v.numbers seat.0 (reverse v.seen) → (journal : List Entry) → journal ≡ kept_entries t → NoOtherOpen v.numbers seat.0 (reverse journal)
  others_left_open formed run run_then landed journal is =
      subst (NoOtherOpen v.numbers seat.0) (past_left journal is)
      (others_left s t v.numbers seat.0 has_turned.made has_turned.past (ap (λ (u : History). u.config) has_turned.same) formed run_then
      (others_found s v seat.0 formed run kept known landed))

  pub calm_left : (journal : List Entry) → journal ≡ kept_entries t → IsCalm journal
  calm_left journal is = subst (λ (past : List Entry). awaits_reuse past ≡ false) (past_left journal is) has_turned.calm

  pub rests_left : (doing : Doing) → HasRested doing t.config t.past (pager t) → (journal : List Entry) → journal ≡ kept_entries t → RestsAt doing v.base (reverse journal)
  rests_left doing rested journal is =
      subst (λ (base : Option StateBase). RestsAt doing base (reverse journal)) (sym (base_left v.base refl))
      (subst (λ (past : List Entry). HasRested doing t.config past (pager_after t.config past)) (past_left journal is) rested)

  pub legal_left : (told : Bool) → IsRun t.config t.past → (told ≡ true → IsRight t.config t.past) → (base : Option StateBase) → base ≡ v.base → (journal : List Entry) → journal ≡ kept_entries t → IsJournalOf told base journal
  legal_left told run right base base_is journal is =
      subst (λ (x : Option StateBase). IsJournalOf told x journal) (sym (base_left base base_is))
      (subst (λ (past : List Entry). IsRun t.config past × (told ≡ true → IsRight t.config past)) (past_left journal is) (run, right))
