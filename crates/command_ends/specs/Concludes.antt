-- What is written, by the status that a call answers. `tells status text` says which text goes with
-- which status. Source: this project's own.
use Rattle.std.specs.Prelude.{◌≡◌, ◌⊎◌, ℕ, ◌<◌, List, length, take}
use Rattle.std.specs.Io.KnownBytes.{Appends}
use Rattle.outside_io.specs.Views.{SinkView}
use Rattle.run_words.specs.Text.{status_line}
use Rattle.command_ends.specs.Ends.{Ends}

-- the sink has taken the text that goes with the status
abbrev pub HasTold : (ℕ → List ℕ → Type 0) → SinkView → SinkView → ℕ → Type 0
HasTold tells before after status = (text : List ℕ) × tells status text × Appends before.taken after.taken text

-- the sink has taken a proper prefix of the text that would have gone with some other status
abbrev pub WasCut : (ℕ → List ℕ → Type 0) → SinkView → SinkView → Type 0
WasCut tells before after =
    (status : ℕ) × ((text : List ℕ) × ((n : ℕ) × tells status text × (n < length text) × Appends before.taken after.taken (take n text)))

-- the outcome of a call: a status with its text, and how the text was written
pub record Concludes (tells : ℕ → List ℕ → Type 0) (before after : SinkView) (result : ℕ) : Type 0 where
  pub status : ℕ
  pub text : List ℕ
  pub tells_it : tells status text
  pub ends : Ends before after status text result

-- the statuses of a command that was carried out (0, or 5 if it left pages dirty) or had no blocks (6)
abbrev pub IsOutcome : ℕ → Type 0
IsOutcome status = (status ≡ 0) ⊎ ((status ≡ 5) ⊎ (status ≡ 6))

-- a configuration was answered, with a status and a text
pub record IsAnsweredBy (answer : ℕ → List ℕ → Type 0) (before after : SinkView) (result : ℕ) : Type 0 where
  pub status : ℕ
  pub text : List ℕ
  pub outcome : IsOutcome status
  pub answers : answer status text
  pub ends : Ends before after status text result

-- the outcome of a configuration: an answer with its status, or status 7 because memory ran out
abbrev pub EndsAnswered : (ℕ → List ℕ → Type 0) → SinkView → SinkView → ℕ → Type 0
EndsAnswered answer before after result = IsAnsweredBy answer before after result ⊎ Ends before after 7 (status_line 7) result
