-- What a block in memory shows. Source: this project's own.
use Rattle.std.specs.Prelude.{ℕ, ◌+◌, List, Some, Contains}
use Rattle.vm_types.specs.BlockView.{BlockView}
use Rattle.disk_trait.specs.declared.memory_block.MemoryBlock.{MemoryBlock}

-- its bytes
abbrev pub bytes_of : MemoryBlock → List ℕ
bytes_of block = block.body.bytes

-- the numbers of the calls that fail
abbrev pub plan_of : MemoryBlock → List ℕ
plan_of block = block.body.calls

-- how often it was read
abbrev pub reads_of : MemoryBlock → ℕ
reads_of block = block.reads

-- how often it was written
abbrev pub writes_of : MemoryBlock → ℕ
writes_of block = block.writes

-- how often it failed
abbrev pub faults_of : MemoryBlock → ℕ
faults_of block = block.body.faults

-- what is seen of it: all is known
abbrev pub seen_of : MemoryBlock → BlockView
seen_of block = record { content = Some (bytes_of block); plan = Some (plan_of block); reads = reads_of block; writes = writes_of block; faults = faults_of block }

-- its next call fails
abbrev pub IsDueToFail : MemoryBlock → Type 0
IsDueToFail block = Contains (plan_of block) (reads_of block + writes_of block + 1)
