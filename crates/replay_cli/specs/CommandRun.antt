-- What a call of the program does, by what is seen of its ends before and after. Source: this project's own.
use Rattle.std.specs.Prelude.{◌≡◌, ◌⊎◌, ℕ, List, [], ◌∷◌, codes}
use Rattle.pager_policy.specs.Serial.{IsSerial}
use Rattle.command_calls.specs.CommandCall.{IsCommandCall}
use Rattle.command_calls.specs.Moves.{HasNoFailure, Moves}
use Rattle.run_commands.specs.Headline.{IsServedBy}
use Rattle.replay_run.specs.Replayed.{HasWorkedAfterAnswers}
use Rattle.replay_cli.specs.Commands.{Asks, HasInput, HasOptionWords, IsDoneStatus, Offers, Told}
use Rattle.replay_cli.specs.declared.ways.Way.{Way}
use Rattle.replay_cli.specs.declared.words.Command.{Command}

-- Words ask for a command, and the call, on one thread or on many, ended with the status.
pub record IsCommandRun (way : Way) (words : List (List ℕ)) (ends : Moves) (status : ℕ) : Type 0 where
  -- What was written is the text that goes with the status, or with status 4 a proper prefix of one; and each failure
  -- has its cause.
  pub call : IsCommandCall (Told way words) ends status
  -- The headline: with status 0 or 5 `serial` has served the trace.
  pub served : words ≡ codes "serial" ∷ [] → (status ≡ 0) ⊎ (status ≡ 5) → IsServedBy IsSerial ends.source ends.depot ends.output status
  -- And so has `replay`, on many threads.
  pub replayed : words ≡ codes "replay" ∷ [] → (status ≡ 0) ⊎ (status ≡ 5) → IsServedBy HasWorkedAfterAnswers ends.source ends.depot ends.output status
  -- Status 1 comes exactly if the words ask for no command that can be run there, unless the write fails, or memory
  -- runs out while options are read.
  pub usage : ((command : Command) → Asks words command → Offers way command → ⊥) → (status ≡ 1) ⊎ ((status ≡ 4) ⊎ (HasOptionWords words × (status ≡ 7)))
  pub no_usage : status ≡ 1 → (command : Command) → Asks words command → Offers way command → ⊥
  -- If the command has its input and nothing fails, it did what was asked, with dirty pages left or with none, or
  -- found a line of a log that isn't legal, or memory ran out.
  pub complete : (command : Command) → Asks words command → Offers way command → HasInput command ends.source.before → HasNoFailure ends → IsDoneStatus command status
