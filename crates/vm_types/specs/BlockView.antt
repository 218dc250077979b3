-- What is seen of a block, and of a block that was taken back. Source: this project's own.
use Rattle.std.specs.Prelude.{ℕ, Bool, List, Option}
use Rattle.vm_types.specs.declared.names.BlockId.{BlockId}

pub record BlockView : Type 0 where
  -- its 512 bytes, where they are known
  pub content : Option (List ℕ)
  -- the numbers of the calls that it was made to fail at, where they are known: reads and writes, counted
  -- together from 1
  pub plan : Option (List ℕ)
  -- how often it was read
  pub reads : ℕ
  -- how often it was written
  pub writes : ℕ
  -- how often it has failed
  pub faults : ℕ

-- what is known of the blocks of a type
pub record Tells : Type 0 where
  -- whether their bytes are known
  pub content : Bool
  -- whether their plans are known
  pub plan : Bool

-- a block that was taken back, by its name
pub record Retired : Type 0 where
  pub block : BlockId
  pub seen : BlockView
