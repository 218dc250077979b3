-- The swap blocks as they stand for the pager's state. This project's own.
use Rattle.std.specs.Prelude.{◌≡◌, ℕ, Option, Some}
use Rattle.vm_types.specs.declared.names.BlockId.{BlockId}
use Rattle.vm_types.specs.declared.names.BlockId.TheVariants as block
use Rattle.vm_types.specs.declared.names.Page.{Page}
use Rattle.vm_types.specs.declared.names.Page.TheVariants.{Private}
use Rattle.state_parts.specs.SwapTable.{SwapTable, swapped_at}
use Rattle.pager_model.specs.Maps.{proc}

-- in a swap block lies the page whose number the table has
pub record SwapsFit (lies : Page → Option BlockId) (n : ℕ) (table : SwapTable) : Type 0 where
  pub procs : table.procs ≡ n
  pub lying : (p slot v : ℕ) → swapped_at table p slot ≡ Some v → lies (Private (proc p) v) ≡ Some (block.Swap (proc p) slot)
  pub found : (p slot v : ℕ) → lies (Private (proc p) v) ≡ Some (block.Swap (proc p) slot) → swapped_at table p slot ≡ Some v
