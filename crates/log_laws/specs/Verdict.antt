-- The verdict on a log. This project's own.
use Rattle.std.specs.Prelude.{◌≡◌, ◌≢◌, ℕ, List, All, length}
use Rattle.vm_types.specs.declared.config.Config.{Config}
use Rattle.log_model.specs.Log.{IsAtFault, IsLegalLog, IsTooLong, text_of}

-- legal with so many entries, at fault at the line of this number, or too long
pub data Verdict : Type 0 where
  legal : ℕ → Verdict
  faulty : ℕ → Verdict
  too_long : Verdict

abbrev pub IsJudged : Config → List ℕ → Verdict → Type 0
IsJudged config text (legal n) = IsLegalLog config text n
IsJudged config text (faulty n) = IsAtFault config text n
IsJudged config text too_long = IsTooLong config text

-- the text is so many lines, the newest first, each with the byte 10 that ends it
pub record IsLines (text : List ℕ) (count : ℕ) : Type 0 where
  pub lines : List (List ℕ)
  pub each : All (λ (line : List ℕ). All (λ (b : ℕ). b ≢ 10) line) lines
  pub counted : length lines ≡ count
  pub is : text ≡ text_of lines
