-- What the write of a text does to a sink, in one fact. Source: this project's own.
use Rattle.std.specs.Prelude.{◌≡◌, ℕ, ◌≤◌, List, Result, is_some}
use Rattle.outside_io.specs.declared.whole.WriteFault.{WriteFault}
use Rattle.outside_io.specs.Views.{SinkView}
use Rattle.outside_io.specs.WholeWrite.{TakesText, FaultsByWrite, stalls_by}

-- what is seen of the sink before and after, by the answer
pub record Writes (before after : SinkView) (result : Result (Unit {0}) WriteFault) (text : List ℕ) : Type 0 where
  pub bytes : TakesText before.taken after.taken result text
  pub known : is_some after.taken ≡ is_some before.taken
  pub failures : FaultsByWrite before.failures after.failures result
  pub failures_later : before.failures ≤ after.failures
  pub stalls : after.stalls ≡ stalls_by before.stalls result
  pub stalls_later : before.stalls ≤ after.stalls
