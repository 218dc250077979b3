-- A source in memory. Source: this project's own.
use Rattle.std.specs.Prelude.{ℕ, List}

-- the bytes left, the numbers of the calls that fail, how many calls were made, and how many failed
pub record MemoryInput : Type 0 where
  pub left : List ℕ
  pub fails : List ℕ
  pub calls : ℕ
  pub faults : ℕ
