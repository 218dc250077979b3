-- A log that is read line by line. This project's own.
use Rattle.std.specs.Prelude.{◌≡◌, ℕ, ◌+◌, ◌≤◌, List, [], Option, Some, Result, Ok, Err, length, take, drop}
use Rattle.outside_io.specs.LineText.{line_text, lines_of}
use Rattle.shadow_history.specs.Standing.{Passed}
use Rattle.log_model.specs.Log.{BeginsLegal, most_lines}
use Rattle.log_model.specs.Stand.{Stand}
use Rattle.log_reasons.specs.declared.line_reason.LineReason.TheVariants as why
use Rattle.log_check.specs.declared.check.Step.{Step}
use Rattle.log_check.specs.declared.check.Step.TheVariants as step
use Rattle.log_check.specs.declared.check_fault.CheckFault.{CheckFault}
use Rattle.log_check.specs.declared.followed.Followed.{Followed}
use Rattle.log_check.specs.declared.place.Place.{Place}
use Rattle.log_check.specs.declared.place.Place.TheVariants.{Ending}
use Rattle.log_check.specs.declared.verdict.Verdict.{Verdict}
use Rattle.log_check.specs.declared.verdict.Verdict.TheVariants.{Fault, Legal}
use Rattle.log_check.specs.Followed.{IsFollowed}
use Rattle.log_check.specs.Judged.{Judges}
use Rattle.log_check.specs.Leading.{StandsAt}

-- so many lines of the text are legal, the next one stands at this place, and this is left
pub record HasRead (text : List ℕ) (s : Passed) (place : Place) (count : ℕ) (left : Option (List ℕ)) : Type 0 where
  pub stand : Stand
  pub rest : List ℕ
  pub legal : BeginsLegal s.config text count stand rest
  pub stands : StandsAt s place stand
  pub left_over : left ≡ Some rest

-- the next line was read: it is legal, or the log is judged, or it can't be
abbrev pub IsNextRead : List ℕ → Followed → Followed → ℕ → Option (List ℕ) → Result Step CheckFault → Type 0
IsNextRead text old new count left (Ok (step.On next)) = HasRead text new.past next (count + 1) left
IsNextRead text old new count left (Ok (step.Judged v)) = Judges old.past.config (Ok v) text left
IsNextRead text old new count left (Err f) = Judges old.past.config (Err f) text left

-- whichever text it was
abbrev pub AnswersNext : Followed → Place → ℕ → Option (List ℕ) → Followed → Option (List ℕ) → Result Step CheckFault → Type 0
AnswersNext old place count left new later answer = (text : List ℕ) → HasRead text old.past place count left → IsNextRead text old new count later answer

-- behind as many lines as a log may have
abbrev pub AnswersLast : Passed → Place → Option (List ℕ) → Option (List ℕ) → Result Verdict CheckFault → Type 0
AnswersLast s place left later answer = (text : List ℕ) → HasRead text s place most_lines left → Judges s.config answer text later

-- so many lines of the text were taken, and this is left
pub record IsBehind (text : List ℕ) (count : ℕ) (left : Option (List ℕ)) : Type 0 where
  pub rest : List ℕ
  pub left_over : left ≡ Some rest
  pub stands : drop count (lines_of text) ≡ lines_of rest

-- a verdict that the log is at fault is of the line that was handed out last
abbrev pub IsFrontOf : List ℕ → List ℕ → Verdict → Type 0
IsFrontOf text out (Legal n) = Unit {0}
IsFrontOf text out (Fault n reason) = take 80 out ≡ line_text n text

abbrev pub IsFrontNext : List ℕ → ℕ → Option (List ℕ) → List ℕ → Result Step CheckFault → Type 0
IsFrontNext text count left out (Ok (step.On next)) = IsBehind text (count + 1) left
IsFrontNext text count left out (Ok (step.Judged v)) = IsFrontOf text out v
IsFrontNext text count left out (Err f) = Unit {0}

abbrev pub IsFrontLast : List ℕ → List ℕ → Result Verdict CheckFault → Type 0
IsFrontLast text out (Ok v) = IsFrontOf text out v
IsFrontLast text out (Err f) = Unit {0}

-- what is known as long as the lines are legal
pub record IsOn (old new : Followed) (count : ℕ) : Type 0 where
  pub followed : IsFollowed new
  pub config : new.past.config ≡ old.past.config
  pub fewer : length new.past.past ≤ count + 1

abbrev pub GoesOnReading : Followed → Followed → ℕ → Step → Type 0
GoesOnReading old new count (step.On next) = IsOn old new count
GoesOnReading old new count (step.Judged v) = Unit {0}

-- what is said where the log ends at this place
abbrev pub IsEndOf : Place → ℕ → Verdict → Type 0
IsEndOf (Ending n []) lines v = v ≡ Legal n
IsEndOf other lines v = v ≡ Fault (lines + 1) why.Ended
