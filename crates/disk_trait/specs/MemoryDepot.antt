-- What a depot in memory holds. Source: this project's own.
use Rattle.std.specs.Prelude.{◌≡◌, ℕ, ◌+◌, ◌-◌, ◌^◌, ◌≤◌, ◌↔◌, List, map, min, Result, OnOk, IsErrOf, Contains}
use Rattle.vm_types.specs.declared.names.BlockId.{BlockId}
use Rattle.disk_trait.specs.declared.depot.MakeFault.{MakeFault}
use Rattle.disk_trait.specs.declared.depot.MakeFault.TheVariants.{Failed, NoMemory}
use Rattle.disk_trait.specs.declared.memory_block.MemoryBlock.{MemoryBlock}
use Rattle.disk_trait.specs.MemoryBlock.{bytes_of, plan_of, reads_of, writes_of, faults_of}

pub record MemoryStore : Type 0 where
  -- the numbers of the calls of `make` that fail, counted from 1
  pub fail_makes : List ℕ
  -- how often `make` was called
  pub makes : ℕ
  -- how often it failed
  pub faults : ℕ
  -- the blocks that were taken back
  pub retired : List (BlockId × MemoryBlock)

-- the names of blocks
abbrev pub names_of : List (BlockId × MemoryBlock) → List BlockId
names_of blocks = map (λ p. p.0) blocks

-- a call of `make` is counted: it fails if it was made to, its failure is counted, and nothing else
-- changes. The counts stop at their type's last number
pub record CountsCall {A : Type 0} (before after : MemoryStore) (result : Result A MakeFault) : Type 0 where
  pub fails : IsErrOf result Failed ↔ Contains before.fail_makes after.makes
  pub retired : after.retired ≡ before.retired
  pub fail_makes : after.fail_makes ≡ before.fail_makes
  pub makes : after.makes ≡ min (before.makes + 1) (2 ^ 64 - 1)
  pub later : before.faults ≤ after.faults
  pub ok : OnOk result (after.faults ≡ before.faults)
  pub no_memory : IsErrOf result NoMemory → after.faults ≡ before.faults
  pub failed : IsErrOf result Failed → after.faults ≡ min (before.faults + 1) (2 ^ 64 - 1)

-- a block of these bytes that is to fail at these calls, not read or written so far
pub record IsNew (bytes calls : List ℕ) (block : MemoryBlock) : Type 0 where
  pub content : bytes_of block ≡ bytes
  pub plan : plan_of block ≡ calls
  pub reads : reads_of block ≡ 0
  pub writes : writes_of block ≡ 0
  pub faults : faults_of block ≡ 0
