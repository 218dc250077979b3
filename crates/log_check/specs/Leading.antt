-- Where a line leads. This project's own.
use Rattle.std.specs.Prelude.{◌≡◌, ℕ, ◌+◌, ◌≤◌, false, List, [], ◌∷◌, ◌++◌, Option, Some, None, length}
use Rattle.vm_types.specs.declared.config.Config.{Config}
use Rattle.vm_journal.specs.declared.entry.Entry.{Entry}
use Rattle.pager_policy.specs.Cleaning.{evicting}
use Rattle.pager_model.specs.Flights.{awaits_reuse, open_flights}
use Rattle.pager_model.specs.Order.{IsAnswered}
use Rattle.run_words.specs.Text.{ended}
use Rattle.shadow_history.specs.Standing.{Passed}
use Rattle.log_model.specs.NextLine.{IsNext}
use Rattle.log_model.specs.Stand.{Stand, ending_after, in_ending, in_entries, in_report, in_rundown, report_after}
use Rattle.log_laws.specs.Underway.{IsAtRest, Underway, between_moves, step, underway_after}
use Rattle.serial_laws.specs.Between.{IsBetween}
use Rattle.log_check.specs.declared.followed.Followed.{Followed}
use Rattle.log_check.specs.declared.place.Place.{Place}
use Rattle.log_check.specs.declared.place.Place.TheVariants.{Ending, Entries, Report, Rundown}
use Rattle.log_check.specs.Followed.{HasEntered, IsFollowed, MayEnter}
use Rattle.log_check.specs.Texts.{Begins}

-- the rundown stands underway here
pub record IsUnderway (s : Passed) (u : Underway) (past rest : List Entry) : Type 0 where
  pub all : s.past ≡ rest ++ past
  pub between : IsBetween s.config past
  pub underway : underway_after s.config past rest ≡ Some u

-- behind entries, what lines so far say is kept by a place
abbrev pub StandsAt : Passed → Place → Stand → Type 0
StandsAt s Entries stand = stand ≡ in_entries s.past
StandsAt s (Report left) stand = IsBetween s.config s.past × (stand ≡ in_report s.past left)
StandsAt s (Rundown u) stand = (past : List Entry) × (rest : List Entry) × IsUnderway s u past rest × (stand ≡ in_rundown past rest)
StandsAt s (Ending n left) stand = stand ≡ in_ending n left

-- the line leads to this place: from each thing that lines so far say to one that they say then
pub record LeadsTo (old : Followed) (place : Place) (line : List ℕ) (new : Followed) (next : Place) : Type 0 where
  pub followed : IsFollowed new
  pub config : new.past.config ≡ old.past.config
  pub grown : length new.past.past ≤ length old.past.past + 1
  pub stands : (stand : Stand) → StandsAt old.past place stand → (after : Stand) × IsNext old.past.config stand line after × StandsAt new.past next after

-- or it isn't a legal next one
abbrev pub Leads : Followed → Place → List ℕ → Followed → Option Place → Type 0
Leads old place line new (Some next) = LeadsTo old place line new next
Leads old place line new None = (stand after : Stand) → StandsAt old.past place stand → IsNext old.past.config stand line after → ⊥

-- this is left of the report
abbrev pub IsReported : List ℕ → Place → Type 0
IsReported [] place = place ≡ Rundown (between_moves (evicting 0 0 false))
IsReported (b ∷ left) place = place ≡ Report (b ∷ left)

pub record MayReport (config : Config) (past : List Entry) : Type 0 where
  pub answered : IsAnswered config past
  pub landed : open_flights past ≡ []
  pub reused : awaits_reuse past ≡ false

-- the line begins this text, and this is left
abbrev pub IsOff : List ℕ → List ℕ → List ℕ → Type 0
IsOff text line left = text ≡ ended line ++ left

pub record ReportBegins (s : Passed) (line : List ℕ) (place : Place) : Type 0 where
  pub may : MayReport s.config s.past
  pub left : List ℕ
  pub off : IsOff (report_after s.config s.past) line left
  pub stands : IsReported left place

-- it begins the report, which may begin, or it doesn't
abbrev pub ReportLeads : Passed → List ℕ → Option Place → Type 0
ReportLeads s line (Some place) = ReportBegins s line place
ReportLeads s line None = MayReport s.config s.past → Begins (report_after s.config s.past) line → ⊥

pub record TextGoesOn (text line : List ℕ) (place : Place) : Type 0 where
  pub left : List ℕ
  pub off : IsOff text line left
  pub stands : IsReported left place

-- it is the next one of the report, or it isn't
abbrev pub TextLeads : List ℕ → List ℕ → Option Place → Type 0
TextLeads text line (Some place) = TextGoesOn text line place
TextLeads text line None = Begins text line → ⊥

pub record EndingBegins (s : Passed) (u : Underway) (line : List ℕ) (place : Place) : Type 0 where
  pub rests : IsAtRest s.config s.past u
  pub left : List ℕ
  pub off : IsOff (ending_after s.config s.past) line left
  pub stands : place ≡ Ending (length s.past) left

-- it begins the text that ends the log, or it doesn't
abbrev pub EndingLeads : Passed → Underway → List ℕ → Option Place → Type 0
EndingLeads s u line (Some place) = EndingBegins s u line place
EndingLeads s u line None = IsAtRest s.config s.past u → Begins (ending_after s.config s.past) line → ⊥

-- it is the next one of that text, or it isn't
abbrev pub EndingTextLeads : ℕ → List ℕ → List ℕ → Option Place → Type 0
EndingTextLeads n text line (Some place) = (left : List ℕ) × IsOff text line left × (place ≡ Ending n left)
EndingTextLeads n text line None = Begins text line → ⊥

pub record HasStepped (old : Followed) (u : Underway) (e : Entry) (new : Followed) (place : Place) : Type 0 where
  pub entered : HasEntered old e new
  pub next : Underway
  pub steps : step old.past.config old.past.past u e ≡ Some next
  pub stands : place ≡ Rundown next

-- the entry is a step of the rundown, and a next one; or not both
abbrev pub RundownLeads : Followed → Underway → Entry → Followed → Option Place → Type 0
RundownLeads old u e new (Some place) = HasStepped old u e new place
RundownLeads old u e new None = (next : Underway) → step old.past.config old.past.past u e ≡ Some next → MayEnter old e → ⊥
