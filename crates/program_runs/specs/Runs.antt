-- What a run over ends in memory is. Source: this project's own.
use Rattle.std.specs.Prelude.{◌≡◌, ℕ, List, [], Some}
use Rattle.vm_types.specs.Moved.{Moved, moved}
use Rattle.disk_trait.specs.DepotView.{DepotView}
use Rattle.outside_io.specs.Views.{SourceView, SinkView}
use Rattle.command_calls.specs.Moves.{Moves}
use Rattle.replay_cli.specs.CommandRun.{IsCommandRun}
use Rattle.replay_cli.specs.declared.ways.Way.TheVariants.{One}

-- what is seen of ends in memory that had the text and had taken nothing
abbrev pub run_moves : List ℕ → SourceView → SinkView → Moved DepotView → Moves
run_moves text source sink depot = record {
  source = moved (record { left = Some text; failures = 0 }) source;
  output = moved (record { taken = Some []; kept = []; failures = 0; stalls = 0 }) sink;
  depot = depot;
}

-- a run of the command that the words name, which read from the text, ended with the status, and wrote these bytes
abbrev pub IsRun : List (List ℕ) → List ℕ → Moved DepotView → ℕ → List ℕ → Type 0
IsRun words text depot status written = (source : SourceView) × ((sink : SinkView) × (sink.taken ≡ Some written)
    × IsCommandRun One words (run_moves text source sink depot) status)
