-- How calls end, and what their turns leave then.
use Rattle.std.proofs.Common.{◌≡◌, ◌||◌, ℕ, Bool, true, false, List, [], Option, Some, None, Result, Ok, Err, refl, sym, ◌∙◌, subst}
use Rattle.std.specs.Prelude.{IfOk, OnErr}
use Rattle.std.proofs.lemmas.Bool.{false≢true}
use Rattle.vm_types.specs.declared.faults.NoMemory.{NoMemory}
use Rattle.vm_types.specs.declared.names.Seat.{Seat}
use Rattle.vm_types.specs.declared.service.Request.{Request}
use Rattle.vm_journal.specs.declared.entry.Entry.{Entry}
use Rattle.frame_store.specs.LiftView.{LiftView}
use Rattle.carried_landings.specs.Outside.{AllWait, NoneWaits}
use Rattle.seat_turns.specs.Steps.{IsStaged}
use Rattle.seat_turns.specs.declared.turned.Spoken.{Spoken}
use Rattle.seat_turns.specs.declared.turned.Turned.{Turned}
use Rattle.seat_turns.specs.declared.turned.Turned.TheVariants.{Made, Reads, Rests, Short, Spoke, Waits}
use Rattle.vm_actors.specs.Ends.{IsEnd, IsIdleEnd, may_carry}
use Rattle.vm_actors.specs.OwnEntries.{AreSilent, GoesOnSilently, GoesOnWith, IsNone, IsReplied, MadeNone, MadeSome, TurnEntries}
use Rattle.vm_actors.proofs.OwnTurns.{goes_then, none_then, replied_then, some_after, some_before}

-- ---- what waits to be carried
pub staged_wait : {B : Type 0} (turned : Turned) (lifts : List (LiftView B)) → may_carry turned ≡ true → IsStaged turned lifts → AllWait lifts
staged_wait Reads lifts is staged = staged
staged_wait Made lifts is staged = staged
staged_wait other lifts is staged = absurd (false≢true is)

pub staged_none : {B : Type 0} (turned : Turned) (lifts : List (LiftView B)) → may_carry turned ≡ false → IsStaged turned lifts → lifts ≡ []
staged_none Reads lifts is staged = absurd (false≢true (sym is))
staged_none Made lifts is staged = absurd (false≢true (sym is))
staged_none (Spoke shown) lifts is staged = staged
staged_none Waits lifts is staged = staged
staged_none Rests lifts is staged = staged
staged_none Short lifts is staged = staged

pub none_staged : {B : Type 0} (turned : Turned) (lifts : List (LiftView B)) → may_carry turned ≡ false → IsStaged turned lifts → NoneWaits lifts
none_staged turned lifts is staged = subst NoneWaits (sym (staged_none turned lifts is staged)) tt

pub no_option : {A : Type 0} (o : Option A) → ((x : A) → o ≡ Some x → ⊥) → o ≡ None
no_option None never = refl
no_option (Some x) never = absurd (never x refl)

-- ---- the end of a call
pub end_carries_none : (turned : Turned) (end : Result Spoken NoMemory) → IsEnd turned end → may_carry turned ≡ false
end_carries_none (Spoke shown) end is = refl
end_carries_none Short end is = refl
end_carries_none Waits end is = refl
end_carries_none Rests end is = refl
end_carries_none Reads end is = absurd is
end_carries_none Made end is = absurd is

pub idle_end_carries_none : (made : Bool) (turned : Turned) (end : Result Bool NoMemory) → IsIdleEnd made turned end → may_carry turned ≡ false
idle_end_carries_none made (Spoke shown) end is = refl
idle_end_carries_none made Short end is = refl
idle_end_carries_none made Waits end is = refl
idle_end_carries_none made Rests end is = refl
idle_end_carries_none made Reads end is = absurd is
idle_end_carries_none made Made end is = absurd is

-- a turn that gives no answer is silent
pub turn_silent : (seat : Seat) (turned : Turned) (o : Option Request) → ((shown : Spoken) → turned ≡ Spoke shown → ⊥) → (entries : List Entry) → TurnEntries seat turned o entries → AreSilent entries
turn_silent seat (Spoke shown) o never entries tells = absurd (never shown refl)
turn_silent seat Reads o never entries tells = tells
turn_silent seat Made o never entries tells = tells
turn_silent seat Waits o never entries tells = tells
turn_silent seat Rests o never entries tells = tells
turn_silent seat Short o never entries tells = tells

pub idle_silent : (seat : Seat) (turned : Turned) (o : Option Request) → o ≡ None → (entries : List Entry) → TurnEntries seat turned o entries → AreSilent entries
idle_silent seat turned o is entries tells = by turned (subst (λ (x : Option Request). TurnEntries seat turned x entries) is tells)
  where
    by : (u : Turned) → TurnEntries seat u None entries → AreSilent entries
    by (Spoke shown) answers = absurd answers
    by Reads answers = answers
    by Made answers = answers
    by Waits answers = answers
    by Rests answers = answers
    by Short answers = answers

weaker : (P Q : List Entry → Type 0) → ((entries : List Entry) → P entries → Q entries) → (numbers : List ℕ) (a b : List Entry) → GoesOnWith P numbers a b → GoesOnWith Q numbers a b
weaker P Q less numbers a b more = record { later = more.later; whole = more.whole; own = less _ more.own }

module _ (numbers : List ℕ) (seat : Seat) (turned : Turned) (a b c : List Entry) (before : GoesOnSilently numbers a b) where
  pub still_silent : (o : Option Request) → ((shown : Spoken) → turned ≡ Spoke shown → ⊥) → GoesOnWith (TurnEntries seat turned o) numbers b c → GoesOnSilently numbers a c
  still_silent o never more = goes_then numbers a b c before (weaker (TurnEntries seat turned o) AreSilent (turn_silent seat turned o never) numbers b c more)

  pub still_idle : (o : Option Request) → o ≡ None → GoesOnWith (TurnEntries seat turned o) numbers b c → GoesOnSilently numbers a c
  still_idle o is more = goes_then numbers a b c before (weaker (TurnEntries seat turned o) AreSilent (idle_silent seat turned o is) numbers b c more)

  pub end_replied : (x : Request) (end : Result Spoken NoMemory) → IsEnd turned end → GoesOnWith (TurnEntries seat turned (Some x)) numbers b c → IfOk end (IsReplied seat x numbers a c)
  end_replied x (Err e) is more = tt
  end_replied x (Ok given) is more = by turned is more
    where
      by : (u : Turned) → IsEnd u (Ok given) → GoesOnWith (TurnEntries seat u (Some x)) numbers b c → IsReplied seat x numbers a c given
      by (Spoke shown) same tells = subst (IsReplied seat x numbers a c) (sym same) (replied_then numbers seat x shown a b c before tells)
      by other same tells = absurd same

  pub end_silent : (x : Request) (end : Result Spoken NoMemory) → IsEnd turned end → GoesOnWith (TurnEntries seat turned (Some x)) numbers b c → OnErr end (GoesOnSilently numbers a c)
  end_silent x (Ok given) is more = tt
  end_silent x (Err e) is more = by turned is more
    where
      by : (u : Turned) → IsEnd u (Err e) → GoesOnWith (TurnEntries seat u (Some x)) numbers b c → GoesOnSilently numbers a c
      by Short same tells = goes_then numbers a b c before tells
      by other same tells = absurd same

-- ---- the writer's and swapper's call
module _ (numbers : List ℕ) (seat : Seat) (turned : Turned) (o : Option Request) (a b c : List Entry) (tells : GoesOnWith (TurnEntries seat turned o) numbers b c) where
  -- whether there are new entries, in the turns before and in this one
  pub none_made : (before now : Bool) → (before ≡ false → MadeNone numbers a b) → (now ≡ false → MadeNone numbers b c) → (before || now) ≡ false → MadeNone numbers a c
  none_made true now first second is = absurd (false≢true (sym is))
  none_made false now first second is = none_then numbers a b c (first refl) (second is)

  pub some_made : (before now : Bool) → (before ≡ true → MadeSome numbers a b) → GoesOnSilently numbers a b → (now ≡ true → MadeSome numbers b c) → (before || now) ≡ true → MadeSome numbers a c
  some_made true now first more second is = some_before numbers (TurnEntries seat turned o) a b c (first refl) tells
  some_made false now first more second is = some_after numbers AreSilent a b c more (second is)

pub none_silent : (numbers : List ℕ) (a b : List Entry) → MadeNone numbers a b → GoesOnSilently numbers a b
none_silent numbers a b made = weaker IsNone AreSilent (λ entries none. subst AreSilent (sym none) tt) numbers a b made

pub idle_end_is : (made given : Bool) (turned : Turned) → IsIdleEnd made turned (Ok given) → (turned ≡ Rests) × (given ≡ made)
idle_end_is made given Rests same = (refl, same)
idle_end_is made given other same = absurd same

-- what is known by whether an entry was made, and what is known if there was nothing to do
pub idle_end_made : (made : Bool) (turned : Turned) (end : Result Bool NoMemory) → IsIdleEnd made turned end → (P : Type 0) (b : Bool) → (made ≡ b → P) → IfOk end (λ (given : Bool). given ≡ b → P)
idle_end_made made turned (Err e) is P b known = tt
idle_end_made made turned (Ok given) is P b known = λ same. known (sym (idle_end_is made given turned is).1 ∙ same)

pub idle_end_rests : (made : Bool) (turned : Turned) (end : Result Bool NoMemory) → IsIdleEnd made turned end → (P : Type 0) → (turned ≡ Rests → P) → IfOk end (λ (given : Bool). given ≡ false → P)
idle_end_rests made turned (Err e) is P rests = tt
idle_end_rests made turned (Ok given) is P rests = λ same. rests (idle_end_is made given turned is).0
