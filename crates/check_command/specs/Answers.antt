-- What is said of the text of a trace and a log, and of what is left of it. Source: this project's own.
use Rattle.std.specs.Prelude.{ℕ, ◌≤◌, List, length, Option, IfSome, Result, Ok, Err}
use Rattle.std.specs.Io.KnownBytes.{prepend_known}
use Rattle.trace_reader.specs.Answer.{FaultsByTrace}
use Rattle.trace_reader.specs.HeadAnswer.{HeadAnswers}
use Rattle.trace_reader.specs.declared.fault.TraceFault.{TraceFault}
use Rattle.log_check.specs.Judged.{CountsByLog as CountsByVerdict, Judges}
use Rattle.log_check.specs.declared.check_fault.CheckFault.{CheckFault}
use Rattle.log_check.specs.declared.verdict.Verdict.{Verdict}
use Rattle.log_check.specs.declared.verdict.Verdict.TheVariants.{Fault, Legal}
use Rattle.trace_reader.specs.LineText.{IsTextOf}
use Rattle.command_ends.specs.Wrongs.{IsLogText}
use Rattle.check_command.specs.CheckText.{HasLog}

-- a verdict on the log or none, or what is wrong with the trace before it
abbrev pub Answer : Type 0
Answer = Result (Result Verdict CheckFault) TraceFault

abbrev pub Says : Answer → List ℕ → Option (List ℕ) → Type 0
Says (Ok verdict) text left = HasLog (λ config log. Judges config verdict log left) text
Says (Err fault) text left = HeadAnswers (Err fault) text left

-- of the faulty line of the trace or the log, if the text is known, the first bytes were kept, and of a log it is said why
abbrev pub KeepsText : Answer → Option (List ℕ) → List ℕ → Type 0
KeepsText (Ok (Ok (Legal n))) input kept = Unit {0}
KeepsText (Ok (Ok (Fault n reason))) input kept = IfSome input (λ text. IsLogText n reason text kept)
KeepsText (Ok (Err fault)) input kept = Unit {0}
KeepsText (Err fault) input kept = IsTextOf fault input kept

-- the count of failures rose where a read failed, and is else unchanged
abbrev pub CountsByCheck : Answer → ℕ → ℕ → Type 0
CountsByCheck (Ok verdict) before now = CountsByVerdict verdict before now
CountsByCheck (Err fault) before now = FaultsByTrace (Err fault) before now

-- at most 4096 bytes were read behind those of which it is said
pub record IsRead (said : Option (List ℕ) → Type 0) (left : Option (List ℕ)) : Type 0 where
  pub read : List ℕ
  pub few : length read ≤ 4096
  pub says : said (prepend_known read left)
