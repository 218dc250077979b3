-- Which line, without the byte 10 that ends it, is a legal next line of a log. This project's own.
use Rattle.std.specs.Prelude.{◌≡◌, ◌≢◌, ◌⊎◌, ℕ, ◌+◌, false, List, [], ◌∷◌, ◌++◌, All, length}
use Rattle.vm_types.specs.declared.config.Config.{Config}
use Rattle.vm_journal.specs.declared.entry.Entry.{Entry}
use Rattle.vm_journal.specs.Line.{line_text}
use Rattle.pager_model.specs.Flights.{awaits_reuse, open_flights}
use Rattle.pager_policy.specs.Moves.{Control}
use Rattle.pager_model.specs.Order.{IsAnswered, IsInOrder}
use Rattle.pager_model.specs.Run.{pager_after}
use Rattle.pager_policy.specs.Rundown.{at_slot}
use Rattle.pager_policy.specs.Serial.{Heard, IsReached, Rests}
use Rattle.pager_model.specs.Spoken.{ShowsReply, flat_after}
use Rattle.pager_model.specs.Step.{IsLegal}
use Rattle.run_words.specs.Text.{ended}
use Rattle.log_model.specs.Stand.{Stand, ending_after, in_ending, in_entries, in_report, in_rundown, report_after, reported}

-- the line is the first of a text, and this is left of it
pub record IsFirstLine (text line left : List ℕ) : Type 0 where
  pub whole : text ≡ ended line ++ left
  pub one : All (λ b. b ≢ 10) line

abbrev pub IsLineOf : Config → ℕ → Entry → List ℕ → Type 0
IsLineOf config number e line = line ≡ line_text number e (length config.procs) config.sections

-- an entry before the report: it has the next number, is legal, keeps the order of its process's requests, and
-- shows the flat reply if it is a DONE
pub record IsNextEntry (config : Config) (past : List Entry) (e : Entry) (line : List ℕ) : Type 0 where
  pub text : IsLineOf config (length past + 1) e line
  pub legal : IsLegal config past (pager_after config past) e
  pub in_order : IsInOrder config (e ∷ past)
  pub right : ShowsReply config (flat_after config past) (e.seat).0 e.what

-- the report begins: every request is answered, no flight is open, and no frame awaits its reuse
pub record BeginsReport (config : Config) (past : List Entry) (line left : List ℕ) : Type 0 where
  pub answered : IsAnswered config past
  pub landed : open_flights past ≡ []
  pub reused : awaits_reuse past ≡ false
  pub text : IsFirstLine (report_after config past) line left

-- the entries after the report are the first ones of what moves of the rundown make: others may come before the
-- last of these moves ends
pub record AreRundownFirst (config : Config) (past rest : List Entry) : Type 0 where
  pub later : List Entry
  pub told : List Heard
  pub control : Control
  pub reached : IsReached config past (at_slot 0 0 false) told (later ++ rest ++ past) control

-- an entry of the rundown
pub record IsNextRundown (config : Config) (past rest : List Entry) (e : Entry) (line : List ℕ) : Type 0 where
  pub text : IsLineOf config (length (rest ++ past) + 1) e line
  pub legal : IsLegal config (rest ++ past) (pager_after config (rest ++ past)) e
  pub move : AreRundownFirst config past (e ∷ rest)

-- the rundown has ended, and the text behind it begins
pub record BeginsEnding (config : Config) (past rest : List Entry) (line left : List ℕ) : Type 0 where
  pub told : List Heard
  pub control : Control
  pub reached : IsReached config past (at_slot 0 0 false) told (rest ++ past) control
  pub rests : Rests config (rest ++ past) control
  pub text : IsFirstLine (ending_after config (rest ++ past)) line left

-- after lines that say the first, the line is legal, and they then say the second
abbrev pub IsNext : Config → Stand → List ℕ → Stand → Type 0
IsNext config (in_entries past) line after =
    ((e : Entry) × IsNextEntry config past e line × (after ≡ in_entries (e ∷ past))) ⊎ ((left : List ℕ) × BeginsReport config past line left × (after ≡ reported past left))
IsNext config (in_report past text) line after = (left : List ℕ) × IsFirstLine text line left × (after ≡ reported past left)
IsNext config (in_rundown past rest) line after =
    ((e : Entry) × IsNextRundown config past rest e line × (after ≡ in_rundown past (e ∷ rest)))
    ⊎ ((left : List ℕ) × BeginsEnding config past rest line left × (after ≡ in_ending (length (rest ++ past)) left))
IsNext config (in_ending n text) line after = (left : List ℕ) × IsFirstLine text line left × (after ≡ in_ending n left)
