-- The laws of logs, as statements. This project's own.
use Rattle.std.specs.Prelude.{◌≡◌, ◌≢◌, ◌⊎◌, ℕ, ◌+◌, ◌≤◌, List, [], ◌++◌, count_by, length, nat_eq}
use Rattle.vm_types.specs.Configuration.{IsWellFormed}
use Rattle.vm_types.specs.declared.config.Config.{Config}
use Rattle.log_model.specs.Log.{AreLegal, IsAtFault, IsLegalLog, IsTextOfRun, IsTooLong, most_lines}
use Rattle.log_model.specs.NextLine.{IsNext}
use Rattle.log_model.specs.Stand.{Stand}
use Rattle.log_laws.specs.Verdict.{IsJudged, IsLines, Verdict}

-- how many lines of the text are ended
abbrev pub lines_in : List ℕ → ℕ
lines_in text = count_by (λ (b : ℕ). nat_eq b 10) text

-- a legal log is the text of a run
abbrev pub LegalLogsAreRuns : Type 0
LegalLogsAreRuns = (config : Config) (text : List ℕ) (n : ℕ) → IsLegalLog config text n → IsTextOfRun config text n

-- with no more lines than a log may have
abbrev pub LegalLogsAreShort : Type 0
LegalLogsAreShort = (config : Config) (text : List ℕ) (n : ℕ) → IsWellFormed config → IsLegalLog config text n → lines_in text ≤ most_lines

-- and the text of a run with no more lines is a legal log
abbrev pub RunsAreLegalLogs : Type 0
RunsAreLegalLogs = (config : Config) (text : List ℕ) (n : ℕ) → IsTextOfRun config text n → lines_in text ≤ most_lines → IsLegalLog config text n

-- each run's text is a legal log or too long
abbrev pub RunsAreLegalOrTooLong : Type 0
RunsAreLegalOrTooLong = (config : Config) (text : List ℕ) (n : ℕ) → IsTextOfRun config text n → IsLegalLog config text n ⊎ IsTooLong config text

-- two verdicts on one text are one
abbrev pub OneVerdict : Type 0
OneVerdict =
    (config : Config) (text : List ℕ) (v w : Verdict) → IsWellFormed config → IsJudged config text v → IsJudged config text w → v ≡ w

-- and no text is without one
abbrev pub NoneIsUnjudged : Type 0
NoneIsUnjudged = (config : Config) (text : List ℕ) → ((v : Verdict) → IsJudged config text v → ⊥) → ⊥

-- a text that is at fault at the last line of its front is at fault there whatever follows that front
abbrev pub FaultsStand : Type 0
FaultsStand =
    (config : Config) (front rest other : List ℕ) (number : ℕ) → IsWellFormed config → IsLines front number
    → IsAtFault config (front ++ rest) number → IsAtFault config (front ++ other) number

-- and no run's text begins with that front
abbrev pub FaultsAreNoRuns : Type 0
FaultsAreNoRuns =
    (config : Config) (front rest other : List ℕ) (number n : ℕ) → IsWellFormed config → IsLines front number
    → IsAtFault config (front ++ rest) number → IsTextOfRun config (front ++ other) n → ⊥

-- a legal log that is cut short is at fault at the line after its last whole one
abbrev pub CutLogsAreAtFault : Type 0
CutLogsAreAtFault =
    (config : Config) (front rest : List ℕ) (n : ℕ) → IsWellFormed config → IsLegalLog config (front ++ rest) n → rest ≢ []
    → IsAtFault config front (lines_in front + 1)

-- a legal next line after no more legal lines than a log may have has at most 255 bytes
abbrev pub LegalLinesAreShort : Type 0
LegalLinesAreShort =
    (config : Config) (lines : List (List ℕ)) (line : List ℕ) (stand after : Stand) → IsWellFormed config → AreLegal config lines stand
    → IsNext config stand line after → length lines ≤ most_lines → length line ≤ 255
