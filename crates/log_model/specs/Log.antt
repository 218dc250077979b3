-- A log as a text: legal whole, at fault at a line, or too long. This project's own.
use Rattle.std.specs.Prelude.{◌≡◌, ◌≢◌, ◌⊎◌, ℕ, ◌+◌, ◌<◌, ◌≤◌, List, [], ◌∷◌, ◌++◌, length}
use Rattle.vm_types.specs.declared.limits.TheConstants.{MOST_LOG_LINES}
use Rattle.vm_types.specs.declared.config.Config.{Config}
use Rattle.vm_journal.specs.declared.entry.Entry.{Entry}
use Rattle.pager_model.specs.Order.{IsInOrder}
use Rattle.pager_model.specs.Run.{IsRun, pager_after}
use Rattle.pager_policy.specs.Serial.{IsWhole}
use Rattle.pager_model.specs.Spoken.{IsRight}
use Rattle.run_words.specs.Text.{ended, run_text}
use Rattle.log_model.specs.NextLine.{IsFirstLine, IsNext}
use Rattle.log_model.specs.Stand.{Stand, in_ending, in_entries, status_of}

-- the text of lines, the newest first
abbrev pub text_of : List (List ℕ) → List ℕ
text_of [] = []
text_of (line ∷ lines) = text_of lines ++ ended line

pub record IsAfter (config : Config) (Before : Stand → Type 0) (line : List ℕ) (stand : Stand) : Type 0 where
  pub earlier : Stand
  pub before : Before earlier
  pub next : IsNext config earlier line stand

-- each of the lines, the newest first, is a legal next line after those before it, and they say this
abbrev pub AreLegal : Config → List (List ℕ) → Stand → Type 0
AreLegal config [] stand = stand ≡ in_entries []
AreLegal config (line ∷ lines) stand = IsAfter config (AreLegal config lines) line stand

-- so many lines of the text are legal, they say this, and this is left of it
pub record BeginsLegal (config : Config) (text : List ℕ) (count : ℕ) (stand : Stand) (left : List ℕ) : Type 0 where
  pub lines : List (List ℕ)
  pub legal : AreLegal config lines stand
  pub counted : length lines ≡ count
  pub whole : text ≡ text_of lines ++ left

-- how many lines a log may have
abbrev pub most_lines : ℕ
most_lines = MOST_LOG_LINES

-- all lines are legal, the status line is the last one, and so many are entries
pub record IsLegalLog (config : Config) (text : List ℕ) (entries : ℕ) : Type 0 where
  pub count : ℕ
  pub few : count ≤ most_lines
  pub legal : BeginsLegal config text count (in_ending entries []) []

-- no legal next line is the first of the text
abbrev pub HasNoNext : Config → Stand → List ℕ → Type 0
HasNoNext config stand text = (line left : List ℕ) (after : Stand) → IsFirstLine text line left → IsNext config stand line after → ⊥

-- the line of this number, from 1, isn't a legal next line after those before it, which are; a log that ends
-- early is at fault at the line after its last
pub record IsAtFault (config : Config) (text : List ℕ) (number : ℕ) : Type 0 where
  pub count : ℕ
  pub stand : Stand
  pub left : List ℕ
  pub legal : BeginsLegal config text count stand left
  pub follows : number ≡ count + 1
  pub few : (count < most_lines) ⊎ ((count ≡ most_lines) × (left ≡ []))
  pub unfinished : (n : ℕ) → stand ≡ in_ending n [] → left ≢ []
  pub none : HasNoNext config stand left

-- as many lines as a log may have are legal, and a byte follows
pub record IsTooLong (config : Config) (text : List ℕ) : Type 0 where
  pub stand : Stand
  pub left : List ℕ
  pub legal : BeginsLegal config text most_lines stand left
  pub more : left ≢ []

-- the text of a run with right values, each process's requests in order, and its report where all are answered
-- and the rundown follows
pub record IsTextOfRun (config : Config) (text : List ℕ) (entries : ℕ) : Type 0 where
  pub past : List Entry
  pub rest : List Entry
  pub run : IsRun config (rest ++ past)
  pub right : IsRight config (rest ++ past)
  pub in_order : IsInOrder config (rest ++ past)
  pub whole : IsWhole config past rest
  pub counted : entries ≡ length (rest ++ past)
  pub is : text ≡ run_text config past rest (status_of config (pager_after config (rest ++ past)))
