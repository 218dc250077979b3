-- What is seen of the three ends of a call, before and after it. Source: this project's own.
use Rattle.vm_types.specs.Moved.{Moved, moved}
use Rattle.vm_types.specs.Counts.{Rose}
use Rattle.disk_trait.specs.DepotView.{DepotView}
use Rattle.outside_io.specs.Views.{SinkView, SourceView}
use Rattle.command_calls.specs.declared.ends.CallEnds.{CallEnds}

pub record Moves : Type 0 where
  pub source : Moved SourceView
  pub output : Moved SinkView
  pub depot : Moved DepotView

-- from these ends to those
abbrev pub moves : {S K D : Type 0} → (S → SourceView) → (K → SinkView) → (D → DepotView) → CallEnds S K D → CallEnds S K D → Moves
moves source output depot before after = record {
  source = moved (source before.source) (source after.source);
  output = moved (output before.output) (output after.output);
  depot = moved (depot before.depot) (depot after.depot);
}

-- no end failed, and no write took nothing
pub record HasNoFailure (ends : Moves) : Type 0 where
  pub read : Rose ends.source.before.failures ends.source.after.failures → ⊥
  pub wrote : Rose ends.output.before.failures ends.output.after.failures → ⊥
  pub took : Rose ends.output.before.stalls ends.output.after.stalls → ⊥
  pub made : Rose ends.depot.before.failures ends.depot.after.failures → ⊥
