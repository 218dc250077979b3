-- What `show` tells of what `dump` wrote. Source: this project's own.
use Rattle.std.specs.Prelude.{◌≡◌, ℕ, List, [], ◌∷◌, ◌++◌, codes, Some}
use Rattle.std.specs.Io.KnownBytes.{Appends}
use Rattle.outside_io.specs.Views.{SourceView}
use Rattle.command_calls.specs.Moves.{Moves}
use Rattle.run_words.specs.Text.{status_line}
use Rattle.dump_lines.specs.ShowText.{count_line}
use Rattle.show_command.specs.ShowTells.{HasDump}
use Rattle.replay_cli.specs.CommandRun.{IsCommandRun}
use Rattle.replay_cli.specs.declared.ways.Way.{Way}

-- A call of `dump` ended with status 0, and these are all the bytes that its sink has taken.
pub record HasDumped (bytes : List ℕ) : Type 0 where
  pub way : Way
  pub ends : Moves
  pub call : IsCommandRun way (codes "dump" ∷ []) ends 0
  pub empty : ends.output.before.taken ≡ Some []
  pub wrote : ends.output.after.taken ≡ Some bytes

-- The last two lines are `WRONG 0` and the status.
abbrev pub EndsRight : List ℕ → Type 0
EndsRight text = (lines : List ℕ) × (text ≡ lines ++ count_line 0 ++ status_line 0)

-- For a source that holds them `show` has its input, and with status 0 its text ends by saying that nothing is wrong.
pub record DumpsAreShownRight : Type 0 where
  pub input : (bytes : List ℕ) (source : SourceView) → HasDumped bytes → source.left ≡ Some bytes → HasDump source
  pub right : (bytes : List ℕ) (way : Way) (ends : Moves) → HasDumped bytes → ends.source.before.left ≡ Some bytes
      → IsCommandRun way (codes "show" ∷ []) ends 0 → (text : List ℕ) × EndsRight text × Appends ends.output.before.taken ends.output.after.taken text
