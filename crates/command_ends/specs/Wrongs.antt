-- What is wrong with an input, with its status and its text. Source: this project's own.
use Rattle.std.specs.Prelude.{◌≡◌, ◌≤◌, ℕ, List, [], ◌++◌, length, codes, decimal, None, Some, IfSome}
use Rattle.std.specs.declared.option.Option.{Option}
use Rattle.vm_types.specs.declared.config.Config.{Config}
use Rattle.trace_reader.specs.Head.{Configured, head_of}
use Rattle.trace_reader.specs.Meaning.{Configuration, trace_of}
use Rattle.trace_reader.specs.declared.fault.TraceFault.{TraceFault}
use Rattle.trace_reader.specs.declared.fault.TraceFault.TheVariants as fault
use Rattle.outside_io.specs.LineText.{line_text}
use Rattle.run_words.specs.Text.{ended, status_line}
use Rattle.log_reasons.specs.LineReasons.{IsWhy}
use Rattle.log_reasons.specs.declared.line_reason.LineReason.{LineReason}
use Rattle.command_ends.specs.FaultText.{fault_text, unfinished_text}
use Rattle.command_ends.specs.declared.wrong.Wrong.{Wrong}
use Rattle.command_ends.specs.declared.wrong.Wrong.TheVariants.{Line, Empty, Unfinished, LogTooLong, LogLine, DumpByte, Undeclared}

-- the lines that say what is wrong with a log
abbrev pub log_fault_text : ℕ → List ℕ
log_fault_text number = ended (codes "LOG FAULT " ++ decimal number)

abbrev pub log_too_long_text : List ℕ
log_too_long_text = ended (codes "LOG TOOMANY")

-- the line that says what is wrong with a dump
abbrev pub dump_bad_text : ℕ → List ℕ
dump_bad_text bytes = ended (codes "DUMP " ++ decimal bytes ++ codes " BAD")

-- the status and the text say that this is wrong; if nothing is wrong, or only that the trace hasn't the
-- process that was asked for, the status is that of no such input
abbrev pub IsWrong : Option Wrong → ℕ → List ℕ → Type 0
IsWrong None status text = (status ≡ 2 → ⊥) × (status ≡ 8 → ⊥)
IsWrong (Some (Line number breach)) status text = (status ≡ 2) × (text ≡ fault_text number breach.cause ++ status_line 2)
IsWrong (Some Empty) status text = (status ≡ 2) × (text ≡ unfinished_text ++ status_line 2)
IsWrong (Some Unfinished) status text = (status ≡ 2) × (text ≡ unfinished_text ++ status_line 2)
IsWrong (Some LogTooLong) status text = (status ≡ 2) × (text ≡ log_too_long_text ++ status_line 2)
IsWrong (Some (LogLine number reason)) status text = (status ≡ 8) × (text ≡ log_fault_text number ++ status_line 8)
IsWrong (Some (DumpByte bytes)) status text = (status ≡ 2) × (text ≡ dump_bad_text bytes ++ status_line 2)
IsWrong (Some (Undeclared proc)) status text = (status ≡ 2 → ⊥) × (status ≡ 8 → ⊥)

-- what is told with a status, and what is wrong by it
pub record TellsWrong (tells : ℕ → List ℕ → Type 0) (wrong : Option Wrong) (status : ℕ) (text : List ℕ) : Type 0 where
  pub told : tells status text
  pub says : IsWrong wrong status text

-- what is wrong with a trace that gives no configuration
abbrev pub wrong_of : TraceFault → Option Wrong
wrong_of (fault.Line number breach) = Some (Line number breach)
wrong_of fault.Empty = Some Empty
wrong_of fault.Unfinished = Some Unfinished
wrong_of fault.ReadFault = None
wrong_of fault.NoMemory = None

-- the first bytes of the line of this number of the log that stands behind a trace, and why it isn't a legal next one
pub record IsLogText (number : ℕ) (reason : LineReason) (text kept : List ℕ) : Type 0 where
  pub config : Config
  pub log : List ℕ
  pub head : head_of text ≡ Configured config log
  pub is : kept ≡ line_text number log
  pub why : IsWhy config log number reason

-- the trace has no process of this number
abbrev pub HasNoProcess : ℕ → List ℕ → Type 0
HasNoProcess proc text = (config : Config) × (trace_of text ≡ Configuration config) × (length config.procs ≤ proc)

-- of the faulty line of the trace or the log that the input had, if that is known, the first bytes were kept, and of
-- a log it is said why
abbrev pub IsWrongText : Option Wrong → Option (List ℕ) → List ℕ → Type 0
IsWrongText None input kept = Unit {0}
IsWrongText (Some (Line number breach)) input kept = IfSome input (λ text. kept ≡ line_text number text)
IsWrongText (Some Empty) input kept = IfSome input (λ text. text ≡ [])
IsWrongText (Some Unfinished) input kept = Unit {0}
IsWrongText (Some LogTooLong) input kept = Unit {0}
IsWrongText (Some (LogLine number reason)) input kept = IfSome input (λ text. IsLogText number reason text kept)
IsWrongText (Some (DumpByte bytes)) input kept = Unit {0}
IsWrongText (Some (Undeclared proc)) input kept = IfSome input (HasNoProcess proc.0)
