-- What follows from what `check` tells.
use Rattle.std.proofs.Common.{◌≡◌, ◌≢◌, ℕ, List, refl, sym, ◌∙◌, subst, arith, inl, inr}
use Rattle.std.specs.Prelude.{◌⊎◌, IfSome}
use Rattle.vm_types.specs.Counts.{Rose}
use Rattle.vm_types.specs.declared.config.Config.{Config}
use Rattle.outside_io.specs.Views.{SinkView, SourceView}
use Rattle.trace_lines.specs.declared.breach.Breach.{Breach}
use Rattle.trace_reader.specs.Head.{Head, Configured, Faulty, head_of}
use Rattle.trace_reader.specs.Head as head
use Rattle.log_model.specs.Log.{IsTooLong}
use Rattle.command_ends.specs.Concludes.{Concludes}
use Rattle.command_ends.proofs.Concluding.{unfailed_status}
use Rattle.command_calls.proofs.Calling.{HasCauses}
use Rattle.command_calls.specs.Moves.{Moves}
use Rattle.check_command.specs.CheckText.{HasLog, IsCheckAnswer, legal, at_fault, too_long}
use Rattle.check_command.specs.CheckTells.{CheckTells, HasCheckInput, answered, faulty, unfinished, unread, no_memory}

-- a status of a verdict
abbrev IsAnswer : ℕ → Type 0
IsAnswer status = (status ≡ 0) ⊎ ((status ≡ 8) ⊎ (status ≡ 2))

answer_status : {before after : SourceView} (status : ℕ) (text : List ℕ) → IsCheckAnswer before after status text → IsAnswer status
answer_status status text (legal n says) = inl refl
answer_status status text (at_fault n says) = inr (inl refl)
answer_status status text (too_long says) = inr (inr refl)

other : (status n : ℕ) → (0 ≡ n → ⊥) → (8 ≡ n → ⊥) → (2 ≡ n → ⊥) → IsAnswer status → status ≡ n → ⊥
other status n zero eight two (inl is) e = zero (sym is ∙ e)
other status n zero eight two (inr (inl is)) e = eight (sym is ∙ e)
other status n zero eight two (inr (inr is)) e = two (sym is ∙ e)

-- no text goes with another status
abbrev IsNeverTold : ℕ → Type 0
IsNeverTold n = (0 ≡ n → ⊥) × (8 ≡ n → ⊥) × (2 ≡ n → ⊥) × (3 ≡ n → ⊥) × (7 ≡ n → ⊥)

module _ {before after : SourceView} where
  never : (n : ℕ) → IsNeverTold n → (status : ℕ) (text : List ℕ) → CheckTells before after status text → status ≡ n → ⊥
  never n none status text (answered own told quiet says) e = other own n none.0 none.1 none.2 (answer_status own told says) e
  never n none status text (faulty line breach quiet says) e = none.2 e
  never n none status text (unfinished quiet says) e = none.2 e
  never n none status text (unread rose says) e = none.3 e
  never n none status text (no_memory quiet) e = none.4 e

  pub not_four : (status : ℕ) (text : List ℕ) → CheckTells before after status text → status ≢ 4
  not_four = never 4 (λ e. omega (arith, e), λ e. omega (arith, e), λ e. omega (arith, e), λ e. omega (arith, e), λ e. omega (arith, e))

  pub not_one : (status : ℕ) (text : List ℕ) → CheckTells before after status text → status ≢ 1
  not_one = never 1 (λ e. omega (arith, e), λ e. omega (arith, e), λ e. omega (arith, e), λ e. omega (arith, e), λ e. omega (arith, e))

  pub not_six : (status : ℕ) (text : List ℕ) → CheckTells before after status text → status ≢ 6
  not_six = never 6 (λ e. omega (arith, e), λ e. omega (arith, e), λ e. omega (arith, e), λ e. omega (arith, e), λ e. omega (arith, e))

  -- with status 3 a read failed
  pub told_read : (status : ℕ) (text : List ℕ) → CheckTells before after status text → status ≡ 3 → Rose before.failures after.failures
  told_read status text (answered own told quiet says) e = absurd (other own 3 (λ f. omega (arith, f)) (λ f. omega (arith, f)) (λ f. omega (arith, f)) (answer_status own told says) e)
  told_read status text (faulty line breach quiet says) e = absurd (omega (arith, e))
  told_read status text (unfinished quiet says) e = absurd (omega (arith, e))
  told_read status text (unread rose says) e = rose
  told_read status text (no_memory quiet) e = absurd (omega (arith, e))

-- so with 3 a read failed, and 4 and 6 come of nothing that is told
pub causes : (ends : Moves) → HasCauses (λ source depot. CheckTells source.before source.after) ends
causes ends = record { not_four = not_four; read = told_read; made = λ status text told six. absurd (not_six status text told six) }

-- what is said of the input whose bytes are told
said : {left : SourceView} (P : List ℕ → Type 0) (i : HasCheckInput left) → IfSome left.left P → P i.text
said P i says = subst (λ l. IfSome l P) i.known says

no_fault : (config : Config) (log : List ℕ) (n : ℕ) (breach : Breach) (h : Head) → h ≡ Configured config log → h ≡ Faulty n breach → ⊥
no_fault config log n breach h a b = cc

not_short : (config : Config) (log : List ℕ) (h : Head) → h ≡ Configured config log → h ≡ head.Unfinished → ⊥
not_short config log h a b = cc

same_log : (config other : Config) (log rest : List ℕ) (h : Head) → h ≡ Configured config log → h ≡ Configured other rest → (other ≡ config) × (rest ≡ log)
same_log config other log rest h a b = (cc, cc)

not_long : {before : SourceView} (i : HasCheckInput before) → HasLog IsTooLong i.text → ⊥
not_long i long =
    let same = same_log i.config long.config i.log long.log (head_of i.text) i.head long.head in
    i.few (subst (λ log. IsTooLong i.config log) same.1 (subst (λ config. IsTooLong config long.log) same.0 long.said))

-- over a trace and a log that are read without a failure
pub told_complete : {before after : SourceView} (status : ℕ) (text : List ℕ) → CheckTells before after status text → HasCheckInput before
    → (Rose before.failures after.failures → ⊥) → (status ≡ 0) ⊎ ((status ≡ 8) ⊎ (status ≡ 7))
told_complete status text (answered own told quiet (legal n says)) i unfailed = inl refl
told_complete status text (answered own told quiet (at_fault n says)) i unfailed = inr (inl refl)
told_complete status text (answered own told quiet (too_long says)) i unfailed = absurd (not_long i (said _ i says))
told_complete status text (faulty n breach quiet says) i unfailed = absurd (no_fault i.config i.log n breach (head_of i.text) i.head (said _ i says))
told_complete status text (unfinished quiet says) i unfailed = absurd (not_short i.config i.log (head_of i.text) i.head (said _ i says).0)
told_complete status text (unread rose says) i unfailed = absurd (unfailed rose)
told_complete status text (no_memory quiet) i unfailed = inr (inr refl)

-- the same of the status that is answered
module _ {before after : SourceView} {sink sink' : SinkView} {result : ℕ} (c : Concludes (CheckTells before after) sink sink' result) where
  pub complete_status : HasCheckInput before → (Rose before.failures after.failures → ⊥) → (Rose sink.failures sink'.failures → ⊥) → (Rose sink.stalls sink'.stalls → ⊥)
      → (result ≡ 0) ⊎ ((result ≡ 8) ⊎ (result ≡ 7))
  complete_status i unfailed written kept =
      let is = unfailed_status c written kept in
      elim (told_complete c.status c.text c.tells_it i unfailed) [
        | inl zero ↦ inl (is ∙ zero)
        | inr more ↦ inr (elim more [ inl eight ↦ inl (is ∙ eight) | inr seven ↦ inr (is ∙ seven) ])
      ]
