-- What a call of the whole program does, by what is seen of its ends before and after. Source: this project's own.
use Rattle.std.specs.Prelude.{◌≡◌, ◌≢◌, ℕ, List, []}
use Rattle.std.specs.declared.option.Option.{Option}
use Rattle.command_ends.specs.Concludes.{HasTold}
use Rattle.command_calls.specs.Moves.{Moves}
use Rattle.program_call.specs.ProgramTells.{IsPartly, ProgramTells}

-- The call over these words, if they are known, ended with the status.
pub record IsProgramRun (words : Option (List (List ℕ))) (ends : Moves) (status : ℕ) : Type 0 where
  -- With every status but 4 the text that goes with it was taken and is handed on, and no call of the sink failed.
  pub told : status ≢ 4 → HasTold (ProgramTells words ends.source ends.depot) ends.output.before ends.output.after status
  pub handed_on : status ≢ 4 → ends.output.after.kept ≡ []
  pub unfailed : status ≢ 4 → (ends.output.after.failures ≡ ends.output.before.failures) × (ends.output.after.stalls ≡ ends.output.before.stalls)
  -- With status 4 a call of the sink failed.
  pub failed : status ≡ 4 → IsPartly (ProgramTells words ends.source ends.depot) ends.output.before ends.output.after
