-- Why a line leads nowhere. This project's own.
use Rattle.std.specs.Prelude.{◌≡◌, ◌⊎◌, ℕ, List, None}
use Rattle.vm_journal.specs.declared.entry.Entry.{Entry}
use Rattle.outside_io.specs.LineText.{line_text}
use Rattle.shadow_history.specs.Standing.{Passed}
use Rattle.log_model.specs.Stand.{Stand}
use Rattle.log_laws.specs.Underway.{Underway, step}
use Rattle.log_reasons.specs.LineReasons.{IsEntryRefused, LineFails}
use Rattle.log_reasons.specs.declared.line_reason.LineReason.{LineReason}
use Rattle.log_reasons.specs.declared.line_reason.LineReason.TheVariants as why
use Rattle.log_check.specs.declared.place.Place.{Place}
use Rattle.log_check.specs.Leading.{StandsAt}
use Rattle.log_check.specs.Texts.{Begins}

-- the line doesn't begin the text, of whose first line these are the first bytes
abbrev pub IsNotIn : List ℕ → List ℕ → LineReason → Type 0
IsNotIn text line (why.NotInText right) = (Begins text line → ⊥) × (right.items ≡ line_text 1 text)
IsNotIn text line other = ⊥

-- it is for what was known before, or since the line doesn't begin the text
abbrev pub IsNeither : LineReason → List ℕ → List ℕ → LineReason → Type 0
IsNeither known text line reason = (reason ≡ known) ⊎ IsNotIn text line reason

-- the entry isn't a next one, or no step of the rundown
abbrev pub IsUnstepped : Passed → Underway → Entry → LineReason → Type 0
IsUnstepped s u e reason = IsEntryRefused s.config s.past e reason ⊎ ((reason ≡ why.NotOfRundown) × (step s.config s.past u e ≡ None))

-- of whatever lines so far say
abbrev pub FailsAt : Passed → Place → List ℕ → LineReason → Type 0
FailsAt s place line reason = (stand : Stand) → StandsAt s place stand → LineFails s.config stand line reason
