-- A turn in which nothing is made.
use Rattle.std.proofs.Common.{◌≡◌, ℕ, ◌+◌, ◌≤◌, cond, List, [], ◌∷◌, ◌++◌, Option, Some, None, length, reverse, sym, ap, ◌∙◌, subst, arith, append-nil}
use Rattle.std.specs.Prelude.{Contains}
use Rattle.std.specs.Option.{is_some}
use Rattle.std.proofs.lemmas.List.{reverse-append}
use Rattle.std.proofs.lemmas.List.Elements.{All-from_recursion}
use Rattle.vm_types.specs.Configuration.{IsWellFormed}
use Rattle.vm_types.specs.declared.config.Config.{Config}
use Rattle.vm_journal.specs.declared.entry.Entry.{Entry}
use Rattle.pager_model.specs.Flights.{carrier_of}
use Rattle.pager_model.specs.Spoken.{spoken, request_of}
use Rattle.pager_model.specs.Run.{IsRun}
use Rattle.pager_rules.proofs.Basics.{count_cons}
use Rattle.history_lock.specs.Known.{Adds, Known}
use Rattle.history_lock.specs.declared.view.View.{View}
use Rattle.vm_state.specs.Based.{base_of, kept_entries}
use Rattle.vm_state.specs.History.{History}
use Rattle.vm_state.specs.declared.base.StateBase.{StateBase}
use Rattle.vm_actors.specs.Between.{NoneOpen}
use Rattle.vm_actors.specs.Doings.{Knows}
use Rattle.vm_actors.specs.OwnEntries.{GoesOnWith, MadeNone}
use Rattle.vm_actors.specs.Requests.{AreAllAnswered}
use Rattle.vm_actors.proofs.OthersLanded.{stays_landed}
use Rattle.vm_actors.proofs.OwnTurns.{none_own}
use Rattle.vm_actors.proofs.StillOut.{found_foreign, found_past, past_of}
use Rattle.vm_actors.proofs.TakenTurns.{keeps}

module _ (s : History) (v w : View StateBase) (known : Known kept_entries base_of s v) (seen_is : w.seen ≡ kept_entries s) where
  pub same_base : w.base ≡ v.base → w.base ≡ Some (base_of s)
  same_base is = is ∙ known.base_is

  pub adds_none : Adds w (kept_entries s)
  adds_none = ([], append-nil w.seen ∙ seen_is, All-from_recursion (λ (e : Entry). Contains w.numbers ((e.seat).0)) [] tt)

module _ (s : History) (v : View StateBase) (known : Known kept_entries base_of s v) (journal : List Entry) (is : journal ≡ kept_entries s) where
  pub seen_none : MadeNone v.numbers v.seen journal
  seen_none = record { later = known.begins.0; whole = known.begins.1 ∙ sym is; own = none_own v.numbers known.begins.0 (λ k has. found_foreign s v k known has) }

  pub seen_landed : (Is : Config → Type 0) → Knows Is v.base → IsWellFormed s.config → IsRun s.config s.past → NoneOpen v.numbers v.seen → NoneOpen v.numbers journal
  seen_landed Is knows formed run landed k has =
      let kept = keeps s v known Is knows in
      let past_is = found_past s v kept known in
      subst (λ (past : List Entry). carrier_of k past ≡ []) (past_of s kept ∙ ap reverse (sym is))
      (subst (λ (past : List Entry). carrier_of k past ≡ []) (sym past_is)
      (stays_landed (base_of s) k known.begins.0 (reverse v.seen) formed (found_foreign s v k known has) (subst (IsRun s.config) past_is run) (landed k has)))

  pub seen_answered : (Is : Config → Type 0) → Knows Is v.base → length s.config.body ≤ spoken s.past → AreAllAnswered v.base journal
  seen_answered Is knows all =
      subst (λ (base : Option StateBase). AreAllAnswered base journal) (sym known.base_is)
      (subst (λ (past : List Entry). length s.config.body ≤ spoken past) (past_of s (keeps s v known Is knows) ∙ ap reverse (sym is)) all)

-- ---- what was answered stays so
later_spoken : (xs past : List Entry) → spoken past ≤ spoken (xs ++ past)
later_spoken [] past = omega arith
later_spoken (e ∷ xs) past =
    let rest = later_spoken xs past in
    let one : spoken (e ∷ xs ++ past) ≡ cond (is_some (request_of e.what)) 1 0 + spoken (xs ++ past) = count_cons (λ (z : Entry). is_some (request_of z.what)) e (xs ++ past) in
    omega (arith, rest, one)

pub still_answered : (P : List Entry → Type 0) (numbers : List ℕ) (a b : List Entry) (base : Option StateBase) → GoesOnWith P numbers a b → AreAllAnswered base a → AreAllAnswered base b
still_answered P numbers a b None more all = absurd all
still_answered P numbers a b (Some x) more all =
    let past_is : reverse b ≡ reverse more.later ++ reverse a = ap reverse (sym more.whole) ∙ reverse-append a more.later in
    let here : length x.config.body ≤ spoken (reverse a) = all in
    let fewer : spoken (reverse a) ≤ spoken (reverse b) = subst (λ (past : List Entry). spoken (reverse a) ≤ spoken past) (sym past_is) (later_spoken (reverse more.later) (reverse a)) in
    omega (arith, here, fewer)
