-- What a verdict on a log says of its text. This project's own.
use Rattle.std.specs.Prelude.{◌≡◌, ◌≢◌, ◌⊎◌, ℕ, ◌≤◌, List, [], ◌++◌, All, Option, Some, IfSome, Result, Ok, Err, length}
use Rattle.vm_types.specs.Counts.{Rose}
use Rattle.vm_types.specs.declared.config.Config.{Config}
use Rattle.outside_io.specs.LineText.{line_text}
use Rattle.run_words.specs.Text.{ended}
use Rattle.log_model.specs.Log.{BeginsLegal, IsAtFault, IsLegalLog, IsTooLong, most_lines}
use Rattle.log_model.specs.Stand.{Stand}
use Rattle.log_reasons.specs.LineReasons.{IsWhy}
use Rattle.log_check.specs.declared.check_fault.CheckFault.{CheckFault}
use Rattle.log_check.specs.declared.check_fault.CheckFault.TheVariants.{NoMemory, ReadFault, TooMany}
use Rattle.log_check.specs.declared.verdict.Verdict.{Verdict}
use Rattle.log_check.specs.declared.verdict.Verdict.TheVariants.{Fault, Legal}

-- at most one line, with the byte 10 that ends it or cut short
pub record IsPart (taken : List ℕ) : Type 0 where
  pub line : List ℕ
  pub one : All (λ b. b ≢ 10) line
  pub is : (taken ≡ line) ⊎ (taken ≡ ended line)
  pub few : length taken ≤ 256

-- lines are legal, at most one line behind them was taken, and this is left
pub record IsCutShort (config : Config) (text : List ℕ) (left : Option (List ℕ)) : Type 0 where
  pub count : ℕ
  pub stand : Stand
  pub taken : List ℕ
  pub rest : List ℕ
  pub legal : BeginsLegal config text count stand (taken ++ rest)
  pub few : count ≤ most_lines
  pub part : IsPart taken
  pub left_over : left ≡ Some rest

-- what the verdict says of the whole text, and of what is left of it
abbrev pub Judges : Config → Result Verdict CheckFault → List ℕ → Option (List ℕ) → Type 0
Judges config (Ok (Legal n)) text left = IsLegalLog config text n × (left ≡ Some [])
Judges config (Ok (Fault n reason)) text left = IsAtFault config text n × IsWhy config text n reason
Judges config (Err TooMany) text left = IsTooLong config text
Judges config (Err ReadFault) text left = IsCutShort config text left
Judges config (Err NoMemory) text left = IsCutShort config text left

-- of the line at which a log is at fault, if the log is known, the first bytes were kept; none, if it ends there
abbrev pub KeepsFault : Result Verdict CheckFault → Option (List ℕ) → List ℕ → Type 0
KeepsFault (Ok (Legal n)) log kept = Unit {0}
KeepsFault (Ok (Fault n reason)) log kept = IfSome log (λ text. kept ≡ line_text n text)
KeepsFault (Err TooMany) log kept = Unit {0}
KeepsFault (Err ReadFault) log kept = Unit {0}
KeepsFault (Err NoMemory) log kept = Unit {0}

-- the count of failures rose at `ReadFault`, and is else unchanged
abbrev pub CountsByLog : {T : Type 0} → Result T CheckFault → ℕ → ℕ → Type 0
CountsByLog (Err ReadFault) before now = Rose before now
CountsByLog (Err NoMemory) before now = now ≡ before
CountsByLog (Err TooMany) before now = now ≡ before
CountsByLog (Ok verdict) before now = now ≡ before
