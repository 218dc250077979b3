-- The status and the text of a verdict, and of a log without one. Source: this project's own.
use Rattle.std.specs.Prelude.{◌≡◌, ℕ, List, ◌++◌, None, Some, Result, Ok, Err}
use Rattle.std.specs.declared.option.Option.{Option}
use Rattle.run_words.specs.Text.{status_line}
use Rattle.log_check.specs.declared.verdict.Verdict.{Verdict}
use Rattle.log_check.specs.declared.verdict.Verdict.TheVariants.{Legal, Fault}
use Rattle.log_check.specs.declared.check_fault.CheckFault.{CheckFault}
use Rattle.log_check.specs.declared.check_fault.CheckFault.TheVariants.{NoMemory, ReadFault, TooMany}
use Rattle.command_ends.specs.declared.wrong.Wrong.{Wrong}
use Rattle.command_ends.specs.declared.wrong.Wrong.TheVariants.{LogTooLong, LogLine}
use Rattle.trace_reader.specs.declared.fault.TraceFault.{TraceFault}
use Rattle.outside_io.specs.Views.{SinkView}
use Rattle.command_ends.specs.Ends.{Ends}
use Rattle.command_ends.specs.FaultText.{fault_status, fault_told}
use Rattle.command_ends.specs.Wrongs.{log_fault_text, log_too_long_text, wrong_of}
use Rattle.check_command.specs.CheckText.{legal_line}

abbrev pub verdict_status : Result Verdict CheckFault → ℕ
verdict_status (Ok (Legal entries)) = 0
verdict_status (Ok (Fault number reason)) = 8
verdict_status (Err TooMany) = 2
verdict_status (Err ReadFault) = 3
verdict_status (Err NoMemory) = 7

abbrev pub verdict_text : Result Verdict CheckFault → List ℕ
verdict_text (Ok (Legal entries)) = legal_line entries ++ status_line 0
verdict_text (Ok (Fault number reason)) = log_fault_text number ++ status_line 8
verdict_text (Err TooMany) = log_too_long_text ++ status_line 2
verdict_text (Err ReadFault) = status_line 3
verdict_text (Err NoMemory) = status_line 7

-- what is wrong by the verdict
abbrev pub wrong_in_log : Result Verdict CheckFault → Option Wrong
wrong_in_log (Ok (Legal entries)) = None
wrong_in_log (Ok (Fault number reason)) = Some (LogLine number reason)
wrong_in_log (Err TooMany) = Some LogTooLong
wrong_in_log (Err ReadFault) = None
wrong_in_log (Err NoMemory) = None

-- what ends the command, and what is wrong: by the verdict on the log or the lack of one, or by the trace before it
abbrev pub EndsJudged : Result (Result Verdict CheckFault) TraceFault → SinkView → SinkView → ℕ → Option Wrong → Type 0
EndsJudged (Ok verdict) before after status wrong = Ends before after (verdict_status verdict) (verdict_text verdict) status × (wrong ≡ wrong_in_log verdict)
EndsJudged (Err fault) before after status wrong = Ends before after (fault_status fault) (fault_told fault) status × (wrong ≡ wrong_of fault)
