-- What a block that never fails shows. Source: this project's own.
use Rattle.std.specs.Prelude.{ℕ, List, Some, None}
use Rattle.vm_types.specs.BlockView.{BlockView}
use Rattle.disk_trait.specs.declared.plain_block.PlainBlock.{PlainBlock}

-- its bytes
abbrev pub bytes_of : PlainBlock → List ℕ
bytes_of block = block.bytes.items

-- how often it was read
abbrev pub reads_of : PlainBlock → ℕ
reads_of block = block.reads

-- how often it was written
abbrev pub writes_of : PlainBlock → ℕ
writes_of block = block.writes

-- what is seen of it: its plan isn't known, and it never failed
abbrev pub seen_of : PlainBlock → BlockView
seen_of block = record { content = Some (bytes_of block); plan = None; reads = reads_of block; writes = writes_of block; faults = 0 }
