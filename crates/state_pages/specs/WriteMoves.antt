-- What a page, the page file and the swap blocks must have before a write begins or ends. This project's own.
use Rattle.std.specs.Prelude.{ℕ, ◌<◌, Option, Some, None}
use Rattle.vm_types.specs.declared.names.BlockId.{BlockId}
use Rattle.vm_types.specs.declared.names.BlockId.TheVariants as block
use Rattle.vm_types.specs.declared.names.Page.{Page}
use Rattle.vm_types.specs.declared.names.Page.TheVariants.{Private, Shared}
use Rattle.page_file.specs.Blocks.{Blocks, IsFreeBlock, assigned_blocks}
use Rattle.state_parts.specs.ChargedTable.{ChargedTable, kept_at}
use Rattle.state_parts.specs.SwapTable.{HasSlot, SwapTable}
use Rattle.state_parts.specs.declared.charged_page.ChargedPage.{ChargedPage}

-- a block that is given to a page is free, and charged
abbrev pub MayTake : Option ℕ → Blocks → ℕ → Type 0
MayTake None file n = IsFreeBlock file n × (assigned_blocks file < file.charged)
MayTake (Some m) file n = Unit {0}

-- a page that has no block yet may take this one; a page that isn't charged takes none
abbrev pub MayTakeBy : Option ChargedPage → Blocks → ℕ → Type 0
MayTakeBy None file n = Unit {0}
MayTakeBy (Some row) file n = MayTake row.assigned file n

abbrev pub MayGive : ChargedTable → Blocks → BlockId → Page → Type 0
MayGive pages file (block.PageFile n) g = MayTakeBy (kept_at pages g) file n
MayGive pages file other g = Unit {0}

-- a swap block in which a page lay, or is to lie, is one
abbrev pub MayFill : SwapTable → BlockId → Type 0
MayFill swaps (block.Swap p n) = HasSlot swaps p.0 n
MayFill swaps other = Unit {0}

abbrev pub MayEmpty : SwapTable → Option BlockId → Type 0
MayEmpty swaps None = Unit {0}
MayEmpty swaps (Some b) = MayFill swaps b

abbrev pub MayMoveSlot : SwapTable → Page → Option BlockId → BlockId → Type 0
MayMoveSlot swaps (Private p v) lies b = MayEmpty swaps lies × MayFill swaps b
MayMoveSlot swaps (Shared s i) lies b = Unit {0}

abbrev pub MayLieBy : Option ChargedPage → SwapTable → Page → BlockId → Type 0
MayLieBy None swaps g b = Unit {0}
MayLieBy (Some row) swaps g b = MayMoveSlot swaps g row.lies b

abbrev pub MayLie : ChargedTable → SwapTable → Page → BlockId → Type 0
MayLie pages swaps g b = MayLieBy (kept_at pages g) swaps g b
