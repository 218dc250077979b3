-- Each entry of the rundown has its cause, and so each one of a whole serial journal.
use Rattle.std.proofs.Common.{◌≡◌, ℕ, zero, suc, ◌+◌, ◌-◌, ◌<◌, ◌^◌, ◌&&◌, ◌||◌, ◌++◌, Bool, true, false, cond, not, List, [], ◌∷◌, Option, Some, None, inl, inr, length, length-append, map, nat_le, nat_lt, refl, sym, ap, ◌∙◌, subst, arith}
use Rattle.std.specs.List.{Contains, list_any, range_with_len}
use Rattle.std.proofs.lemmas.Bool.{and_parts, false≢true, not-false, not-true}
use Rattle.std.proofs.lemmas.Option.{none-some, same_Some}
use Rattle.vm_types.specs.Configuration.{IsWellFormed}
use Rattle.vm_types.specs.declared.names.Page.{Page}
use Rattle.vm_types.specs.declared.config.Config.{Config}
use Rattle.vm_journal.specs.declared.entry.Entry.{Entry}
use Rattle.pager_model.specs.Flights.{carrier_of}
use Rattle.pager_model.specs.Lookups.{passes}
use Rattle.pager_model.specs.Maps.{is_private}
use Rattle.pager_model.specs.Order.{IsAnswered}
use Rattle.pager_model.specs.Pager.{Pager}
use Rattle.pager_model.specs.Run.{IsRun, pager_after}
use Rattle.pager_policy.specs.Cleaning.{Cleaning, evicting, rounds}
use Rattle.pager_policy.specs.Given.{Seen, is_stopped, made_by, seen_at, slots_of, with_reply}
use Rattle.pager_policy.specs.Landings.{all_bad, first_bad, landed_by}
use Rattle.pager_policy.specs.Moves.{After, Control, Doing, Move, carries, cleaning, control, goes, makes, refuses, rests}
use Rattle.pager_policy.specs.Policy.{move_of}
use Rattle.pager_policy.specs.Rundown.{Place, at_slot, clean_move, cleaning_move, holds_shared, is_shared_at, is_shared_listed, later_move, next_round, place_in, place_move, round_move, rounds_move, shared_from, shared_of_processes, shared_place, writer_of, written_for_need}
use Rattle.pager_policy.specs.Serial.{GoesOn, Heard, IsMade, IsReached, IsSerial, IsWhole}
use Rattle.pager_policy.specs.Swap.{is_shared_seen}
use Rattle.pager_policy.specs.WriteCluster.{reason_need}
use Rattle.pager_rules.proofs.Lists.{found_passes}
use Rattle.call_laws.proofs.CallsSay.{begin_silent}
use Rattle.call_laws.proofs.Said.{IsSilentStep, Silent, landed_silent, said_shown, silent_made, silent_then}
use Rattle.entry_causes.specs.Caused.{IsCausedThroughout}
use Rattle.entry_causes.specs.WriteCause.{IsRundownWrite, IsWriteCause}
use Rattle.cause_laws.specs.AreCaused.{AreCaused}
use Rattle.cause_laws.proofs.BeginCaused.{begin_caused}
use Rattle.cause_laws.proofs.HeldUp.{rundown_held}
use Rattle.cause_laws.proofs.Landed.{landed_caused, made_caused}
use Rattle.serial_causes.proofs.Entries.{shown_caused, silent_last}
use Rattle.serial_causes.proofs.SerialCaused.{reached_run, serial_caused}

-- ---- what is known of a move: its entries have their causes and answer nothing, and the rundown goes on
abbrev IsCleaning : Doing → Type 0
IsCleaning (cleaning at) = Unit {0}
IsCleaning other = ⊥

abbrev StaysCleaning : After → Type 0
StaysCleaning (goes c) = IsCleaning c.doing
StaysCleaning refuses = ⊥

abbrev CleansRight : Config → List Entry → Move → Type 0
CleansRight config past (makes seat ws c) = Silent ws × AreCaused config past seat ws × IsCleaning c.doing
CleansRight config past (carries seat ws onward) = Silent ws × AreCaused config past seat ws × ((all first : Bool) → StaysCleaning (onward all first))
CleansRight config past rests = Unit {0}

record Cleans (config : Config) (past : List Entry) (m : Move) : Type 0 where
  pub right : CleansRight config past m

-- ---- a shared page on the modified list
record Listed (t : ℕ → Bool) (xs : List ℕ) : Type 0 where
  pub f : ℕ
  pub inside : Contains xs f
  pub passes : t f ≡ true

any_listed : (t : ℕ → Bool) (xs : List ℕ) → list_any t xs ≡ true → Listed t xs
any_listed t [] some = absurd (false≢true some)
any_listed t (x ∷ xs) some = by (t x) refl (any_listed t xs)
  where
    by : (b : Bool) → t x ≡ b → (list_any t xs ≡ true → Listed t xs) → Listed t (x ∷ xs)
    by true is rest = record { f = x; inside = (0, omega arith, refl); passes = is }
    by false is rest =
        let later = rest (sym (ap (λ (b : Bool). b || list_any t xs) is) ∙ some) in
        record { f = later.f; inside = (suc later.inside.0, (let less = later.inside.1 in omega (arith, less)), later.inside.2); passes = later.passes }

shared_held : (o : Option Page) → holds_shared o ≡ true → (g : Page) × (o ≡ Some g) × (is_private g ≡ false)
shared_held None is = absurd (false≢true is)
shared_held (Some g) is = (g, refl, not-true (is_private g) is)

-- ---- the place that is looked for has a shared page
slot_shared : (a : Pager) (p n m : ℕ) → shared_from a p n ≡ Some m → is_shared_at a p m ≡ true
slot_shared a p n m found = (and_parts (nat_le n m) (is_shared_at a p m) (found_passes (λ (k : ℕ). nat_le n k && is_shared_at a p k) (slots_of a p) m found)).1

place_shared : (a : Pager) (p n : ℕ) (later : Option Place) (at : Place) → ((at : Place) → later ≡ Some at → is_shared_at a at.process at.slot ≡ true) → (o : Option ℕ) → shared_from a p n ≡ o → place_in p o later ≡ Some at → is_shared_at a at.process at.slot ≡ true
place_shared a p n later at rest None found is = rest at is
place_shared a p n later at rest (Some m) found is =
    let same = same_Some _ at is in
    subst (λ (x : Place). is_shared_at a x.process x.slot ≡ true) same (slot_shared a p n m found)

processes_shared : (a : Pager) (ps : List ℕ) (at : Place) → shared_of_processes a ps ≡ Some at → is_shared_at a at.process at.slot ≡ true
processes_shared a [] at is = absurd (none-some at is)
processes_shared a (p ∷ ps) at is = place_shared a p 0 (shared_of_processes a ps) at (processes_shared a ps) (shared_from a p 0) refl is

found_shared : (config : Config) (a : Pager) (p n : ℕ) (at : Place) → shared_place config a p n ≡ Some at → is_shared_at a at.process at.slot ≡ true
found_shared config a p n at is =
    let ps = range_with_len (p + 1) (length config.procs - (p + 1)) in
    place_shared a p n (shared_of_processes a ps) at (processes_shared a ps) (shared_from a p n) refl is

module _ (config : Config) (past : List Entry) (answered : IsAnswered config past) where
  abbrev a : Pager
  a = pager_after config past

  either : (b : Bool) (x y : Move) → (b ≡ true → Cleans config past x) → (b ≡ false → Cleans config past y) → Cleans config past (cond b x y)
  either true x y first second = first refl
  either false x y first second = second refl

  resting : Cleans config past rests
  resting = record { right = tt }

  cluster : IsWriteCause config past a (writer_of config) → (to : Bool → Bool → Cleaning) → Cleans config past (carries (writer_of config) (written_for_need config a) (λ (all first : Bool). goes (control (cleaning (to all first)))))
  cluster cause to = record { right = (begin_silent config a reason_need, begin_caused config past (writer_of config) reason_need cause, λ all first. tt) }

  -- ---- the two rounds
  rundown_write : is_shared_listed a ≡ true → IsRundownWrite config past a (writer_of config)
  rundown_write listed =
      let one = any_listed (λ (f : ℕ). holds_shared (a.page f)) a.modified listed in
      let held = shared_held (a.page one.f) one.passes in
      record { writer = refl; answered = answered; f = one.f; listed = one.inside; page = held.0; holds = held.1; shared = held.2 }

  round_caused : (following left : ℕ) → is_shared_listed a ≡ true → Cleans config past (round_move config a following left)
  round_caused following left listed = cluster (inr (inr (inr (inr (inr (rundown_write listed)))))) (λ (all first : Bool). rounds following (left - length (written_for_need config a)))

  next_caused : (following : ℕ) → is_shared_listed a ≡ true → Cleans config past (next_round config a following)
  next_caused zero listed = resting
  next_caused (suc following) listed = round_caused following (length a.modified) listed

  rounds_caused : (following left : ℕ) → Cleans config past (rounds_move config a following left)
  rounds_caused following left =
      either (is_shared_listed a) _ _ (λ listed. either (nat_lt 0 left) _ _ (λ some. round_caused following left listed) (λ none. next_caused following listed)) (λ none. resting)

  -- ---- the slots
  clean_caused : (at : Place) (failed : Bool) (later : Move) (o : Option Seen) → seen_at a at.process at.slot ≡ o → is_shared_at a at.process at.slot ≡ true → Cleans config past later → Cleans config past (clean_move config past a at failed later o)
  clean_caused at failed later None seen shared otherwise = otherwise
  clean_caused at failed later (Some s) seen shared otherwise =
      either (not (is_stopped config past a s.frame)) _ _
      (λ free. record { right = (refl, (tt, tt), tt) })
      (λ stopped. either failed _ _ (λ bad. otherwise)
      (λ good. cluster (inr (inr (inr (inr (inl (rundown_held config past at.process at.slot s answered seen (not-true (is_private s.page) (sym (ap (passes is_shared_seen) seen) ∙ shared)) (not-false _ stopped))))))) (λ (all first : Bool). evicting at.process at.slot all)))

  place_caused : (p n : ℕ) (failed : Bool) (later : Place → Move) (o : Option Place) → shared_place config a p n ≡ o → ((at : Place) → Cleans config past (later at)) → Cleans config past (place_move config past a failed later o)
  place_caused p n failed later None found otherwise = rounds_caused 2 0
  place_caused p n failed later (Some at) found otherwise = clean_caused at failed (later at) (seen_at a at.process at.slot) refl (found_shared config a p n at found) (otherwise at)

  later_caused : (at : Place) → Cleans config past (later_move config past a at)
  later_caused at = place_caused at.process (at.slot + 1) false (λ (next : Place). rests) (shared_place config a at.process (at.slot + 1)) refl (λ next. resting)

  cleaning_caused : (at : Cleaning) → Cleans config past (cleaning_move config past a at)
  cleaning_caused (evicting p n failed) = place_caused p n failed (later_move config past a) (shared_place config a p n) refl later_caused
  cleaning_caused (rounds following left) = rounds_caused following left

cleans : (config : Config) (past : List Entry) (c : Control) → IsAnswered config past → IsCleaning c.doing → Cleans config past (move_of config past c)
cleans config past c answered = by c.doing
  where
    by : (d : Doing) → IsCleaning d → Cleans config past (move_of config past (record c { doing = d }))
    by (cleaning at) is = cleaning_caused config past answered at
    by other is = absurd is

-- ---- all of its moves
record IsCleanedTo (config : Config) (past : List Entry) (c : Control) : Type 0 where
  pub goes_on : IsCleaning c.doing
  pub answered : IsAnswered config past
  pub caused : IsCausedThroughout config past

still_answered : (config : Config) (past more : List Entry) → IsSilentStep past more → IsAnswered config past → IsAnswered config more
still_answered config past more silent old p = silent.answers p ∙ old p

on_cleaned : (config : Config) (landed more : List Entry) (next : Control) (x : After) → StaysCleaning x → GoesOn config landed more next x → IsAnswered config landed → IsCausedThroughout config landed → IsCleanedTo config more next
on_cleaned config landed more next (goes c) stays on answered caused =
    subst (λ (d : Control). IsCleanedTo config more d) (sym on.1) (subst (λ (xs : List Entry). IsCleanedTo config xs c) (sym on.0) (record { goes_on = stays; answered = answered; caused = caused }))
on_cleaned config landed more next refuses stays on answered caused = absurd stays

made_cleaned : (config : Config) (past : List Entry) (heard : Heard) (more : List Entry) (next : Control) (m : Move) → CleansRight config past m → IsMade config past heard more next m → IsAnswered config past → IsCausedThroughout config past → IsCleanedTo config more next
made_cleaned config past heard more next (makes seat ws c) right made answered before =
    let shown = map (with_reply heard.reply) ws in
    let now : IsCleanedTo config (made_by seat shown past) c =
    record {
      goes_on = right.2;
      answered = still_answered config past (made_by seat shown past) (silent_made seat shown past (said_shown heard.reply ws ∙ right.0)) answered;
      caused = made_caused config seat shown past before (shown_caused config seat heard.reply ws past (silent_last ws right.0) right.1);
    } in
    subst (λ (d : Control). IsCleanedTo config more d) (sym made.1) (subst (λ (xs : List Entry). IsCleanedTo config xs c) (sym made.0) now)
made_cleaned config past heard more next (carries seat ws onward) right made answered before =
    let begun = made_by seat ws past in
    let landed = landed_by config seat (carrier_of seat begun) heard.outcomes begun in
    on_cleaned config landed more next (onward (all_bad heard.outcomes) (first_bad heard.outcomes)) (right.2 (all_bad heard.outcomes) (first_bad heard.outcomes)) made.on
    (still_answered config past landed (silent_then past begun landed (silent_made seat ws past right.0) (landed_silent config seat (carrier_of seat begun) heard.outcomes begun)) answered)
    (landed_caused config seat (carrier_of seat begun) heard.outcomes begun (made_caused config seat ws past before right.1))
made_cleaned config past heard more next rests right made answered before = absurd made

reached_cleaned : (config : Config) (start : List Entry) (from : Control) (told : List Heard) (past : List Entry) (c : Control) → IsReached config start from told past c → IsCleanedTo config start from → IsCleanedTo config past c
reached_cleaned config start from [] past c reached first = subst (λ (d : Control). IsCleanedTo config past d) (sym reached.1) (subst (λ (xs : List Entry). IsCleanedTo config xs from) (sym reached.0) first)
reached_cleaned config start from (heard ∷ told) past c reached first =
    let before = reached_cleaned config start from told reached.earlier_past reached.earlier_control reached.before first in
    made_cleaned config reached.earlier_past heard past c (move_of config reached.earlier_past reached.earlier_control) (cleans config reached.earlier_past reached.earlier_control before.answered before.goes_on).right reached.move before.answered before.caused

-- ---- behind a journal in which each entry has its cause
pub rundown_caused : (config : Config) (past rest : List Entry) → IsWhole config past rest → IsCausedThroughout config past → IsCausedThroughout config (rest ++ past)
rundown_caused config past rest whole before =
    let rundown = whole.rundown in
    (reached_cleaned config past (at_slot 0 0 false) rundown.told (rest ++ past) rundown.control rundown.reached (record { goes_on = tt; answered = whole.answered; caused = before })).caused

-- ---- a whole serial journal
pub whole_caused : (config : Config) (past rest : List Entry) → IsWellFormed config → IsRun config (rest ++ past) → length (rest ++ past) < 2 ^ 63 → IsSerial config past → IsWhole config past rest → IsCausedThroughout config (rest ++ past)
whole_caused config past rest formed run few serial whole =
    let rundown = whole.rundown in
    let run_there = reached_run config past (at_slot 0 0 false) rundown.told (rest ++ past) rundown.control rundown.reached run in
    let size = length-append rest past in
    rundown_caused config past rest whole (serial_caused config past serial.control formed run_there (omega (arith, few, size)) serial.reached)
