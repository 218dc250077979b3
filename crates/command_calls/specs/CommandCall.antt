-- What each call of a command does, by what is seen of its ends before and after. `tells source depot status
-- text` says which text goes with which status, by what is seen of the source and of the depot. It speaks of calls that return. Source: this project's own.
use Rattle.std.specs.Prelude.{◌≡◌, ◌≢◌, ◌⊎◌, ℕ, ◌≤◌, List, is_some}
use Rattle.std.specs.declared.option.Option.{Option}
use Rattle.vm_types.specs.Counts.{Rose}
use Rattle.vm_types.specs.Moved.{Moved}
use Rattle.disk_trait.specs.DepotView.{DepotView}
use Rattle.outside_io.specs.Views.{SourceView}
use Rattle.command_ends.specs.Concludes.{Concludes, HasTold, WasCut}
use Rattle.command_ends.specs.Wrongs.{TellsWrong}
use Rattle.command_ends.specs.declared.wrong.Wrong.{Wrong}
use Rattle.command_calls.specs.Moves.{Moves}

-- what is told, and what is wrong with the input by that text
abbrev pub WithWrong : (Moved SourceView → Moved DepotView → ℕ → List ℕ → Type 0) → Option Wrong → Moved SourceView → Moved DepotView → ℕ → List ℕ → Type 0
WithWrong tells wrong source depot status text = TellsWrong (tells source depot) wrong status text

-- The call ended with the status.
pub record IsCommandCall (tells : Moved SourceView → Moved DepotView → ℕ → List ℕ → Type 0) (ends : Moves) (status : ℕ) : Type 0 where
  -- A status with the text that goes with it, and how that text was written.
  pub outcome : Concludes (tells ends.source ends.depot) ends.output.before ends.output.after status
  -- So with every status but 4 what was written is the text that goes with it, and no count of the sink changed.
  pub told : status ≢ 4 → HasTold (tells ends.source ends.depot) ends.output.before ends.output.after status
  pub unfailed : status ≢ 4 → (ends.output.after.failures ≡ ends.output.before.failures) × (ends.output.after.stalls ≡ ends.output.before.stalls)
  -- With status 4 it is a proper prefix of a text that goes with another status.
  pub cut : status ≡ 4 → WasCut (tells ends.source ends.depot) ends.output.before ends.output.after
  -- Status 3 comes only if a read failed, 4 only if a write failed or took nothing, and 6 only if the depot failed.
  pub read_fault : status ≡ 3 → Rose ends.source.before.failures ends.source.after.failures
  pub write_fault : status ≡ 4 → Rose ends.output.before.failures ends.output.after.failures ⊎ Rose ends.output.before.stalls ends.output.after.stalls
  pub depot_fault : status ≡ 6 → Rose ends.depot.before.failures ends.depot.after.failures
  -- The bytes taken are known after the call exactly if they were before, and no count falls.
  pub known_later : is_some ends.output.after.taken ≡ is_some ends.output.before.taken
  pub read_later : ends.source.before.failures ≤ ends.source.after.failures
  pub write_later : (ends.output.before.failures ≤ ends.output.after.failures) × (ends.output.before.stalls ≤ ends.output.after.stalls)
  pub depot_later : ends.depot.before.failures ≤ ends.depot.after.failures
