-- A sink in memory. Source: this project's own.
use Rattle.std.specs.Prelude.{ℕ, List}

-- the bytes taken and the room left, the numbers of the calls that fail and of those that take
-- nothing, how many calls were made, how many failed and how many stalled
pub record MemoryOutput : Type 0 where
  pub taken : List ℕ
  pub room : ℕ
  pub fails : List ℕ
  pub idle : List ℕ
  pub calls : ℕ
  pub faults : ℕ
  pub stalls : ℕ
