-- One round of the writer's or swapper's worker: a look, and then work for no request.
use Rattle.std.proofs.Common.{◌≡◌, ◌⊎◌, ◌∙◌, ℕ, Bool, true, false, List, Option, inl, inr, refl, subst}
use Rattle.std.specs.Prelude.{reverse}
use Rattle.vm_journal.specs.declared.entry.Entry.{Entry}
use Rattle.vm_state.specs.declared.base.StateBase.{StateBase}
use Rattle.vm_actors.specs.Between.{NoneOpen}
use Rattle.vm_actors.specs.Doings.{RestsAt}
use Rattle.vm_actors.specs.OwnEntries.{AreSilent, GoesOnSilently, MadeNone, MadeSome}
use Rattle.vm_actors.specs.Requests.{AreAllAnswered}
use Rattle.vm_actors.specs.declared.doing.Doing.{Doing}
use Rattle.vm_actors.proofs.Ending.{none_silent}
use Rattle.vm_actors.proofs.OwnTurns.{goes_then, some_after}
use Rattle.vm_actors.proofs.SeenTurns.{still_answered}

pub open_none : (ns ms : List ℕ) (journal : List Entry) → ns ≡ ms → NoneOpen ns journal → NoneOpen ms journal
open_none ns ms journal same none = subst (λ (zs : List ℕ). NoneOpen zs journal) same none

module _ (numbers ns ms : List ℕ) (owns : ns ≡ numbers) (still : ms ≡ ns) (a b c d : List Entry) (before : GoesOnSilently numbers a b) (looked : MadeNone ns b c) (worked : GoesOnSilently ms c d) where
  looked_on : GoesOnSilently numbers a c
  looked_on = goes_then numbers a b c before (none_silent numbers b c (subst (λ (zs : List ℕ). MadeNone zs b c) owns looked))

  pub round_silent : GoesOnSilently numbers a d
  round_silent = goes_then numbers a c d looked_on (subst (λ (zs : List ℕ). GoesOnSilently zs c d) (still ∙ owns) worked)

  pub round_answered : (base old : Option StateBase) → base ≡ old → AreAllAnswered base c → AreAllAnswered old d
  round_answered base old is all = subst (λ (x : Option StateBase). AreAllAnswered x d) is (still_answered AreSilent ms c d base worked all)

  pub round_done : (doing : Doing) (base old : Option StateBase) → base ≡ old → (made : Bool) → (made ≡ true → MadeSome ms c d) → (made ≡ false → RestsAt doing base (reverse d)) → MadeSome numbers a d ⊎ RestsAt doing old (reverse d)
  round_done doing base old is true some rests = inl (some_after numbers AreSilent a c d looked_on (subst (λ (zs : List ℕ). MadeSome zs c d) (still ∙ owns) (some refl)))
  round_done doing base old is false some rests = inr (subst (λ (x : Option StateBase). RestsAt doing x (reverse d)) is (rests refl))
