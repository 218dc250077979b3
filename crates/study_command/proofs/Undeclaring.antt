-- What is said of a trace that doesn't have the process that is studied.
use Rattle.std.proofs.Common.{◌≡◌, ◌≢◌, ℕ, Bool, true, false, leb, cond, List, length, refl, subst, sym, arith}
use Rattle.std.specs.Prelude.{IfErr, IfSome, None, Some, Result, Ok, Err}
use Rattle.std.specs.declared.option.Option.{Option}
use Rattle.std.proofs.lemmas.Bool.{leb-true}
use Rattle.vm_types.specs.declared.config.Config.{Config}
use Rattle.vm_types.specs.declared.names.Proc.{Proc}
use Rattle.trace_reader.specs.Answer.{AnswersTrace, FaultsByTrace}
use Rattle.trace_reader.specs.LineText.{IsTextOf}
use Rattle.trace_reader.specs.declared.fault.TraceFault.{TraceFault}
use Rattle.outside_io.specs.Views.{SinkView, SourceView}
use Rattle.command_ends.specs.Concludes.{Concludes}
use Rattle.command_ends.specs.Tells.{Tells, answered, faulty, unfinished, unread, no_memory}
use Rattle.command_ends.specs.Wrongs.{IsWrong, IsWrongText, TellsWrong}
use Rattle.command_ends.proofs.Telling.{concludes_fault, concludes_saying, not_four, told_read}
use Rattle.command_ends.proofs.Wronging.{fault_text_kept}
use Rattle.command_calls.proofs.Calling.{HasCauses}
use Rattle.command_calls.specs.Moves.{Moves}
use Rattle.command_ends.specs.declared.wrong.Wrong.{Wrong}
use Rattle.command_ends.specs.declared.wrong.Wrong.TheVariants.{Undeclared}
use Rattle.study_command.specs.StudyText.{IsStudyAnswer, StudyTells}
use Rattle.study_command.specs.Undeclared.{EndsStudied, undeclared}
use Rattle.study_command.specs.declared.words.Study.{Study}

by_test_right : (process : Proc) (test : Bool) (status : ℕ) (text : List ℕ) → IsWrong None status text → IsWrong (cond test (Some (Undeclared process)) None) status text
by_test_right process true status text is = is
by_test_right process false status text is = is

-- it goes with the statuses of an input with which nothing is wrong
undeclared_right : (config : Config) (process : Proc) (wrong : Option Wrong) → wrong ≡ undeclared config process → (status : ℕ) (text : List ℕ) → IsWrong None status text → IsWrong wrong status text
undeclared_right config process wrong is status text right =
    subst (λ w. IsWrong w status text) (sym is) (by_test_right process (leb (length config.procs) process.0) status text right)

by_test_kept : (config : Config) (process : Proc) (input left : Option (List ℕ)) (kept : List ℕ) → IfSome input (λ text. AnswersTrace (Ok config) text left) → (test : Bool) → leb (length config.procs) process.0 ≡ test
    → IsWrongText (cond test (Some (Undeclared process)) None) input kept
by_test_kept config process None left kept means true few = tt
by_test_kept config process (Some text) left kept means true few = (config, means.0, leb-true (length config.procs) process.0 few)
by_test_kept config process input left kept means false few = tt

-- and with a trace that doesn't have it
undeclared_kept : (config : Config) (process : Proc) (wrong : Option Wrong) (input left : Option (List ℕ)) (kept : List ℕ) → wrong ≡ undeclared config process → IfSome input (λ text. AnswersTrace (Ok config) text left) → IsWrongText wrong input kept
undeclared_kept config process wrong input left kept is means =
    subst (λ w. IsWrongText w input kept) (sym is) (by_test_kept config process input left kept means (leb (length config.procs) process.0) refl)

module _ {before after : SourceView} {sink sink' : SinkView} {result : ℕ} where
  -- the outcome of the command, by what was read
  pub concludes_studied : (study : Study) (read : Result Config TraceFault) (wrong : Option Wrong) → IfSome before.left (λ text. AnswersTrace read text after.left)
      → FaultsByTrace read before.failures after.failures → EndsStudied study read sink sink' result wrong → Concludes (TellsWrong (Tells (IsStudyAnswer study) before after) wrong) sink sink' result
  concludes_studied study (Ok config) wrong means counts ends = concludes_saying config wrong (undeclared_right config study.process wrong ends.1) means counts ends.0
  concludes_studied study (Err fault) wrong means counts ends = concludes_fault fault wrong ends.1 means counts ends.0

-- a study has status 0, so no text goes with 4 and 6, and with 3 a read failed
not_six : (study : Study) {before after : SourceView} (status : ℕ) (text : List ℕ) → Tells (IsStudyAnswer study) before after status text → status ≢ 6
not_six study status text (answered config own told outcome quiet reads right) e = absurd (omega (arith, right.0, e))
not_six study status text (faulty n breach quiet shown) e = absurd (omega arith)
not_six study status text (unfinished quiet short) e = absurd (omega arith)
not_six study status text (unread rose faultless) e = absurd (omega arith)
not_six study status text (no_memory quiet) e = absurd (omega arith)

pub causes : (study : Study) (ends : Moves) → HasCauses (StudyTells study) ends
causes study ends = record { not_four = not_four; read = told_read; made = λ status text told six. absurd (not_six study status text told six) }

-- the first bytes of a faulty line were kept
pub studied_text_kept : (sink sink' : SinkView) (result : ℕ) (study : Study) (read : Result Config TraceFault) (wrong : Option Wrong) (input left : Option (List ℕ)) (kept : List ℕ) → IfSome input (λ text. AnswersTrace read text left)
    → IfErr read (λ fault. IsTextOf fault input kept) → EndsStudied study read sink sink' result wrong → IsWrongText wrong input kept
studied_text_kept sink sink' result study (Ok config) wrong input left kept means text ends = undeclared_kept config study.process wrong input left kept ends.1 means
studied_text_kept sink sink' result study (Err fault) wrong input left kept means text ends = fault_text_kept fault wrong input kept ends.1 text
