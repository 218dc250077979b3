-- Which block is the one after another. Source: this project's own.
use Rattle.std.specs.Prelude.{Bool, false, ◌+◌, ◌&&◌, Option, Some, None, nat_eq, if◌then◌else◌}
use Rattle.vm_types.specs.declared.names.BlockId.{BlockId}
use Rattle.vm_types.specs.declared.names.BlockId.TheVariants as block

-- the block after this one: of the page file, of one process's swap blocks, or of one section
abbrev pub is_next_block : BlockId → BlockId → Bool
is_next_block (block.PageFile m) (block.PageFile n) = nat_eq n (m + 1)
is_next_block (block.Swap p m) (block.Swap q n) = nat_eq p.0 q.0 && nat_eq n (m + 1)
is_next_block (block.Section s i) (block.Section t j) = nat_eq s.0 t.0 && nat_eq j (i + 1)
is_next_block b other = false

-- a page whose block is fixed joins only if that is the next one
abbrev pub if_next : Option BlockId → BlockId → Option BlockId
if_next None b = Some b
if_next (Some last) b = if is_next_block last b then Some b else None
