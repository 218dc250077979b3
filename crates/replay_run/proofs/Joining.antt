-- The ends of workers, joined.
use Rattle.std.proofs.Common.{◌≡◌, ◌||◌, ℕ, zero, suc, ◌<◌, Bool, true, false, cond, List, [], ◌∷◌, ◌++◌, length, nat_lt, refl, sym, ap, ◌∙◌, subst, ⊎_elim, arith}
use Rattle.std.specs.Prelude.{Contains, slice_index_or}
use Rattle.std.proofs.lemmas.Bool.{false≢true}
use Rattle.std.proofs.lemmas.List.Elements.{Contains-append_cases}
use mathlib.Core.List.{IsPrefix}
use Rattle.vm_journal.specs.Own.{own_entries}
use Rattle.vm_journal.specs.declared.entry.Entry.{Entry}
use Rattle.history_lock.specs.Passes.{IsIdle, IsSameLock, base_of, numbers, seen}
use Rattle.history_lock.specs.Views.{longer}
use Rattle.history_lock.specs.declared.lock.HistoryLock.{HistoryLock}
use Rattle.history_lock.specs.declared.pass.Pass.{Pass}
use Rattle.history_lock.specs.declared.view.View.{View}
use Rattle.history_lock.proofs.Prefixes.{prefix_self, prefix_trans}
use Rattle.vm_state.specs.History.{History}
use Rattle.vm_state.specs.declared.base.StateBase.{StateBase}
use Rattle.vm_actors.specs.Between.{IsCalm, NoneOpen}
use Rattle.vm_actors.specs.declared.ended.Ended.{Ended}
use Rattle.replay_run.specs.Jobs.{IsDoneBy, IsEndedOf, IsFresh}
use Rattle.replay_run.specs.Workers.{AreEnded, WasDone}

was_later : (b : StateBase) (k : ℕ) (old new : List Entry) → IsPrefix old new → own_entries k new ≡ own_entries k old → WasDone b k old → WasDone b k new
was_later b k old new begins own was = record {
  place = was.place;
  begins = prefix_trans was.place old new was.begins begins;
  own = own ∙ was.own;
  landed = was.landed;
  done = was.done;
}

longer_calm : (xs ys : List Entry) → IsCalm xs → IsCalm ys → IsCalm (longer xs ys)
longer_calm xs ys first second = by (nat_lt (length xs) (length ys))
  where
    by : (b : Bool) → IsCalm (cond b ys xs)
    by true = second
    by false = first

only_one : (k j : ℕ) → Contains (k ∷ []) j → j ≡ k
only_one k j (i, within, at) = first i within at
  where
    first : (i : ℕ) → i < 1 → slice_index_or (k ∷ []) i j ≡ j → j ≡ k
    first zero within at = sym at
    first (suc i) within at = absurd (omega (arith, within))

-- ---- one worker
pub one_ended : {B : Type 0} (lock : HistoryLock History StateBase) (b : StateBase) (k : ℕ) (old : Pass History StateBase) (ended : Ended B) → IsFresh lock b k old → IsEndedOf old ended → AreEnded lock b ended
one_ended lock b k old ended fresh is = record {
  own = is.same ∙ fresh.own;
  idle = is.idle;
  stands = is.stands ∙ ap (λ (v : View StateBase). v.base) fresh.views;
  calm = is.calm;
  done = λ sufficed j has.
      let same : j ≡ k = only_one k j (subst (λ (ns : List ℕ). Contains ns j) (is.owns ∙ ap (λ (v : View StateBase). v.numbers) fresh.views) has) in
      subst (λ (i : ℕ). WasDone b i (seen ended.pass)) (sym same)
      (record {
        place = seen ended.pass;
        begins = prefix_self (seen ended.pass);
        own = refl;
        landed = subst (λ (ns : List ℕ). NoneOpen ns (seen ended.pass)) (ap (λ (v : View StateBase). v.numbers) fresh.views) is.landed;
        done = subst (λ (v : View StateBase). IsDoneBy v.base v.numbers (seen ended.pass)) fresh.views (is.done sufficed);
      });
}

pub one_number : {B : Type 0} (lock : HistoryLock History StateBase) (b : StateBase) (k : ℕ) (old : Pass History StateBase) (ended : Ended B) → IsFresh lock b k old → IsEndedOf old ended → numbers ended.pass ≡ k ∷ []
one_number lock b k old ended fresh is = is.owns ∙ ap (λ (v : View StateBase). v.numbers) fresh.views

-- ---- two
or_false : (x y : Bool) → (x || y) ≡ false → (x ≡ false) × (y ≡ false)
or_false true y is = absurd (false≢true (sym is))
or_false false y is = (refl, is)

pub both_ended : {B : Type 0} (lock : HistoryLock History StateBase) (b : StateBase) (first second both : Ended B) → AreEnded lock b first → AreEnded lock b second
    → IsSameLock first.pass both.pass → IsIdle both.pass → base_of both.pass ≡ base_of first.pass → numbers both.pass ≡ numbers first.pass ++ numbers second.pass → seen both.pass ≡ longer (seen first.pass) (seen second.pass)
    → IsPrefix (seen first.pass) (seen both.pass) → IsPrefix (seen second.pass) (seen both.pass)
    → ((k : ℕ) → Contains (numbers first.pass) k → own_entries k (seen both.pass) ≡ own_entries k (seen first.pass))
    → ((k : ℕ) → Contains (numbers second.pass) k → own_entries k (seen both.pass) ≡ own_entries k (seen second.pass))
    → both.short ≡ (first.short || second.short) → AreEnded lock b both
both_ended lock b first second both one two same idle base owns sees begins other_begins entries other_entries short = record {
  own = same ∙ one.own;
  idle = idle;
  stands = base ∙ one.stands;
  calm = subst IsCalm (sym sees) (longer_calm (seen first.pass) (seen second.pass) one.calm two.calm);
  done = λ sufficed k has.
      let each = or_false first.short second.short (sym short ∙ sufficed) in
      ⊎_elim (λ (mine : Contains (numbers first.pass) k). was_later b k (seen first.pass) (seen both.pass) begins (entries k mine) (one.done each.0 k mine))
      (λ (theirs : Contains (numbers second.pass) k). was_later b k (seen second.pass) (seen both.pass) other_begins (other_entries k theirs) (two.done each.1 k theirs))
      (Contains-append_cases (numbers first.pass) (numbers second.pass) k (subst (λ (ns : List ℕ). Contains ns k) owns has));
}
