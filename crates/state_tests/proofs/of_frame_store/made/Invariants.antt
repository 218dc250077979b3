use Rattle.std.proofs.Common.{◌≡◌, ◌+◌, ◌≤◌, map, take}
use Rattle.std.specs.Prelude.{All}
use Rattle.vm_types.specs.declared.names.BlockId.{BlockId}
use Rattle.disk_trait.specs.MemoryBlock.{reads_of, writes_of}
use Rattle.disk_trait.specs.declared.memory_block.MemoryBlock.{MemoryBlock}
use Rattle.state_tests.proofs.of_frame_store.made.Given as goal

abbrev pub invariant-loop-id : goal.invariant-loop-id
invariant-loop-id l = record {
  ids : map (λ (p : BlockId × MemoryBlock). p.0) l.blocks.items ≡ take l.id-index l.ids;
  unused : All (λ (p : BlockId × MemoryBlock). reads_of p.1 + writes_of p.1 ≤ 0) l.blocks.items;
}
