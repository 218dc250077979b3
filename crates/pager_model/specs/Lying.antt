-- Whether a page lies in a block, and which one lies in a swap block. This project's own.
use Rattle.std.specs.Prelude.{ℕ, Bool, false, Option, Some, None, find}
use Rattle.vm_types.specs.Same.{same_block}
use Rattle.vm_types.specs.declared.names.Page.{Page}
use Rattle.vm_types.specs.declared.names.BlockId.{BlockId}
use Rattle.vm_types.specs.declared.names.BlockId.TheVariants as block
use Rattle.pager_model.specs.Maps.{proc}
use Rattle.pager_model.specs.Pager.{Pager}

abbrev pub lies_in : Option BlockId → BlockId → Bool
lies_in None b = false
lies_in (Some c) b = same_block b c

-- the page that lies in a swap block
abbrev pub lying_in : Pager → ℕ → ℕ → Option Page
lying_in a p n = find (λ (g : Page). lies_in (a.lies g) (block.Swap (proc p) n)) a.charged
