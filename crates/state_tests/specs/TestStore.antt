-- What the helpers of the tests say. No contract of a public call names these definitions.
use Rattle.std.specs.Prelude.{◌≡◌, ℕ, ◌+◌, ◌/◌, ◌%◌, ◌<◌, ◌≤◌, true, [], ◌∷◌, length, replicate}
use Rattle.std.specs.Prelude.{All, IfSome, IsSome}
use Rattle.vm_types.specs.declared.config.ProcSpec.{ProcSpec}
use Rattle.vm_types.specs.declared.config.Section.{Section}
use Rattle.vm_types.specs.declared.config.SectionKind.TheVariants as kind
use Rattle.vm_types.specs.declared.names.BlockId.{BlockId}
use Rattle.vm_types.specs.declared.names.BlockId.TheVariants as block
use Rattle.disk_trait.specs.MemoryBlock.{reads_of, writes_of}
use Rattle.disk_trait.specs.declared.memory_block.MemoryBlock.{MemoryBlock}
use Rattle.frame_store.specs.StoreView.{StoreView}

abbrev pub great_section : ℕ → Section
great_section number = record { name = (65 + number / 8) ∷ (65 + number % 8) ∷ []; kind = kind.Shared; bytes = replicate 131072 0 }

abbrev pub great_spec : ProcSpec
great_spec = record { limit = 1024; quota = 1024; extent = 1024; locks = 0 }

abbrev pub in_row : BlockId → ℕ → BlockId
in_row (block.Section s i) number = block.Section s number
in_row (block.PageFile i) number = block.PageFile number
in_row (block.Swap p i) number = block.Swap p number

-- all is at home, the pool's buffers that aren't frames' are in it, and no block was called more often
pub record IsReady (calls : ℕ) (s : StoreView MemoryBlock) : Type 0 where
  pub many : length s.buffers ≡ 4096
  pub buffers : All IsSome s.buffers
  pub blocks : All IsSome s.blocks
  pub few : All (λ o. IfSome o (λ b. reads_of b + writes_of b ≤ calls)) s.blocks
  pub left : 0 < s.left
  pub full : s.pool.size ≤ s.left + 4096
