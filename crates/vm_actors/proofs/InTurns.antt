-- Entries that are made in turns of their seat.
use Rattle.std.proofs.Common.{◌≡◌, ℕ, zero, suc, ◌<◌, true, List, [], ◌∷◌, ◌++◌, Option, Some, None, length, reverse, refl, sym, ap, ◌∙◌, subst, inl, inr}
use Rattle.std.specs.Prelude.{Contains, slice_get, take}
use Rattle.std.specs.List.{AllByRecursion}
use Rattle.std.proofs.lemmas.Bool.{eqb-false}
use Rattle.std.proofs.lemmas.Option.{none-some}
use Rattle.vm_types.specs.declared.config.Config.{Config}
use Rattle.vm_types.specs.declared.names.Seat.{Seat}
use Rattle.vm_types.specs.declared.service.Request.{Request}
use Rattle.vm_journal.specs.declared.entry.Entry.{Entry}
use Rattle.vm_journal.specs.declared.entry.What.{What}
use Rattle.pager_model.specs.Order.{answered}
use Rattle.pager_policy.specs.Given.{made_by}
use Rattle.entry_causes.specs.NextRequest.{next_request}
use Rattle.seat_steps.specs.Turns.{HasStepped, IsDue}
use Rattle.history_lock.specs.Known.{Known}
use Rattle.history_lock.specs.declared.view.View.{View}
use Rattle.vm_state.specs.Based.{base_of, kept_entries}
use Rattle.vm_state.specs.History.{History}
use Rattle.vm_state.specs.declared.base.StateBase.{StateBase}
use Rattle.vm_actors.specs.Doings.{Knows, MayDo, request_of}
use Rattle.vm_actors.specs.InTurns.{AreLeft, GoesInTurns, IsAfter, IsDueFor, IsNext, MadeInTurns}
use Rattle.vm_actors.specs.OwnEntries.{GoesOnSilently, MadeNone}
use Rattle.vm_actors.specs.declared.doing.Doing.{Doing}
use Rattle.vm_actors.specs.declared.doing.Doing.TheVariants.{Asking, Swapping, Writing}
use Rattle.vm_actors.proofs.Foreign.{IsForeign}
use Rattle.vm_actors.proofs.Onto.{onto, onto_reverse}
use Rattle.vm_actors.proofs.OwnTurns.{foreign_none}
use Rattle.vm_actors.proofs.NextAsked.{next_after, next_left, still_next}
use Rattle.vm_actors.proofs.StillOut.{found_foreign, found_past}

-- ---- one after another
module _ (config : Config) (seat : ℕ) where
  pub goes_still : (past : List Entry) → GoesInTurns config seat past past
  goes_still past = record { count = 0; after = refl }

  more_after : (m : ℕ) (a b c : List Entry) → GoesInTurns config seat a b → IsAfter config seat b m c → GoesInTurns config seat a c
  more_after zero a b c first same = subst (GoesInTurns config seat a) (sym same) first
  more_after (suc m) a b c first second =
      let rest = more_after m a b second.earlier first second.before in
      record { count = suc rest.count; after = record { earlier = second.earlier; before = rest.after; last = second.last } }

  pub goes_on : (a b c : List Entry) → GoesInTurns config seat a b → GoesInTurns config seat b c → GoesInTurns config seat a c
  goes_on a b c first second = more_after second.count a b c first second.after

  -- entries of other seats
  one_other : (e : Entry) (past : List Entry) → IsForeign seat e → GoesInTurns config seat past (e ∷ past)
  one_other e past foreign = record {
    count = 1;
    after = record { earlier = past; before = refl; last = inl (record { entry = e; other = eqb-false (e.seat).0 seat foreign; is = refl }) };
  }

  pub others_go : (later past : List Entry) → AllByRecursion (IsForeign seat) later → GoesInTurns config seat past (onto past later)
  others_go [] past foreign = goes_still past
  others_go (e ∷ later) past foreign = goes_on past (e ∷ past) (onto (e ∷ past) later) (one_other e past foreign.0) (others_go later (e ∷ past) foreign.1)

  -- one turn
  pub one_turn : (request : Option Request) (past more : List Entry) (made : List What) → IsDue config past seat request → HasStepped config past more seat request → more ≡ made_by seat made past → GoesInTurns config seat past more
  one_turn request past more made due stepped own = record {
    count = 1;
    after = record { earlier = past; before = refl; last = inr (record { request = request; due = due; stepped = stepped; made = made; own = own }) };
  }

-- ---- on what a pass knows
pub stays_in_turns : (Is : Config → Type 0) (base : Option StateBase) (k : ℕ) (a : List Entry) → Knows Is base → MadeInTurns base k a a
stays_in_turns Is None k a knows = absurd knows
stays_in_turns Is (Some b) k a knows = goes_still b.config k (reverse a)

pub more_in_turns : (base : Option StateBase) (k : ℕ) (a b c : List Entry) → MadeInTurns base k a b → MadeInTurns base k b c → MadeInTurns base k a c
more_in_turns None k a b c first second = first
more_in_turns (Some x) k a b c first second = goes_on x.config k (reverse a) (reverse b) (reverse c) first second

pub none_in_turns : (Is : Config → Type 0) (base : Option StateBase) (numbers : List ℕ) (k : ℕ) (a b : List Entry) → Knows Is base → Contains numbers k → MadeNone numbers a b → MadeInTurns base k a b
none_in_turns Is None numbers k a b knows has none = absurd knows
none_in_turns Is (Some x) numbers k a b knows has none =
    subst (GoesInTurns x.config k (reverse a)) (sym (onto_reverse a none.later) ∙ ap reverse none.whole)
    (others_go x.config k none.later (reverse a) (foreign_none numbers k has none.later none.own))

-- ---- in one turn more of a request's call, or of the writer's or swapper's
idle_due : (doing : Doing) (base : Option StateBase) (journal : List Entry) → request_of doing ≡ None → IsDueFor doing base journal
idle_due (Asking p x) base journal none = absurd (none-some x (sym none))
idle_due Writing base journal none = tt
idle_due Swapping base journal none = tt

module _ (base now : Option StateBase) (same : now ≡ base) (p : ℕ) (a b c : List Entry) where
  pub then_in_turns : MadeInTurns base p a b → MadeInTurns now p b c → MadeInTurns base p a c
  then_in_turns before turn = more_in_turns base p a b c before (subst (λ (z : Option StateBase). MadeInTurns z p b c) same turn)

  pub ask_in_turns : (numbers : List ℕ) (x : Request) → Contains numbers p → GoesOnSilently numbers a b → (IsNext base p x a → MadeInTurns base p a b) → (IsNext now p x b → MadeInTurns now p b c) → IsNext base p x a → MadeInTurns base p a c
  ask_in_turns numbers x has more before turn next =
      then_in_turns (before next) (turn (subst (λ (z : Option StateBase). IsNext z p x b) (sym same) (still_next numbers p has base x a b more next)))

  pub idle_in_turns : (doing : Doing) → request_of doing ≡ None → MadeInTurns base p a b → (IsDueFor doing now b → MadeInTurns now p b c) → MadeInTurns base p a c
  idle_in_turns doing none before turn = then_in_turns before (turn (idle_due doing now b none))

  -- one request more of the work
  pub work_in_turns : (work : List Request) (i : ℕ) (x : Request) → slice_get work i ≡ Some x → answered p (reverse b) ≡ answered p (reverse a) ++ take i work
      → (AreLeft base p work a → MadeInTurns base p a b) → (IsNext now p x b → MadeInTurns now p b c) → AreLeft base p work a → MadeInTurns base p a c
  work_in_turns work i x is done before turn left =
      then_in_turns (before left) (turn (subst (λ (z : Option StateBase). IsNext z p x b) (sym same) (next_left base p work i x a b is left done)))

pub none_yet : (base : Option StateBase) (p : ℕ) (work : List Request) (a : List Entry) → AreLeft base p work a → MadeInTurns base p a a
none_yet None p work a left = left
none_yet (Some b) p work a left = goes_still b.config p (reverse a)

-- a look, and then work for no request
pub round_in_turns : (Is : Config → Type 0) (base now : Option StateBase) (numbers ns : List ℕ) (seat z : Seat) (a b c d : List Entry) → Knows Is base → Contains numbers seat.0 → ns ≡ numbers → now ≡ base → z ≡ seat
    → MadeInTurns base seat.0 a b → MadeNone ns b c → MadeInTurns now z.0 c d → MadeInTurns base seat.0 a d
round_in_turns Is base now numbers ns seat z a b c d knows has owns same at before looked worked =
    then_in_turns base now same seat.0 a c d
    (more_in_turns base seat.0 a b c before (none_in_turns Is base numbers seat.0 b c knows has (subst (λ (ms : List ℕ). MadeNone ms b c) owns looked)))
    (subst (λ (y : Seat). MadeInTurns now y.0 c d) at worked)

-- ---- in one turn at the lock
module _ (s : History) (v : View StateBase) (known : Known kept_entries base_of s v) (kept : s.keeps ≡ true) (seat : Seat) (has : Contains v.numbers seat.0) where
  found_in_turns : GoesInTurns s.config seat.0 (reverse v.seen) s.past
  found_in_turns =
      subst (GoesInTurns s.config seat.0 (reverse v.seen)) (sym (found_past s v kept known))
      (others_go s.config seat.0 known.begins.0 (reverse v.seen) (found_foreign s v seat.0 known has))

  next_found : (x : Request) → IsNext v.base seat.0 x v.seen → next_request s.config s.past seat.0 ≡ Some x
  next_found x next =
      ap (λ (past : List Entry). next_request s.config past seat.0) (found_past s v kept known)
      ∙ (next_after s.config seat.0 known.begins.0 (reverse v.seen) (found_foreign s v seat.0 known has)
      ∙ subst (λ (base : Option StateBase). IsNext base seat.0 x v.seen) known.base_is next)

  due_found : (doing : Doing) → MayDo seat doing s.config → IsDueFor doing v.base v.seen → IsDue s.config s.past seat.0 (request_of doing)
  due_found (Asking p x) may next =
      let same : p.0 ≡ seat.0 = ap (λ (z : Seat). z.0) (sym may.0) in
      (subst (λ (k : ℕ). k < length s.config.procs) same may.1.process, next_found x (subst (λ (k : ℕ). IsNext v.base k x v.seen) same next))
  due_found Writing may next = inl (ap (λ (z : Seat). z.0) may)
  due_found Swapping may next = inr (ap (λ (z : Seat). z.0) may)

  pub turn_made : (doing : Doing) → MayDo seat doing s.config → (t : History) (made : List What) → t.past ≡ made_by seat.0 made s.past → HasStepped s.config s.past t.past seat.0 (request_of doing)
      → (journal : List Entry) → t.past ≡ reverse journal → IsDueFor doing v.base v.seen → MadeInTurns v.base seat.0 v.seen journal
  turn_made doing may t made own stepped journal is next =
      subst (λ (base : Option StateBase). MadeInTurns base seat.0 v.seen journal) (sym known.base_is)
      (subst (GoesInTurns s.config seat.0 (reverse v.seen)) is
      (goes_on s.config seat.0 (reverse v.seen) s.past t.past found_in_turns
      (one_turn s.config seat.0 (request_of doing) s.past t.past made (due_found doing may next) stepped own)))
