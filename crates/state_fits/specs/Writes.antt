-- What a write's beginning and its end change of its page: what is kept of it, the page file and the swap
-- blocks. Source: Kenah and Bate, "VAX/VMS Internals and Data Structures", the modified page writer and
-- outswap; that a page's block is assigned when its first write begins is this project's own.
use Rattle.std.specs.Prelude.{ℕ, Bool, Option, Some, None, slice_set, if◌then◌else◌}
use Rattle.std.specs.Option.{option_map}
use Rattle.vm_types.specs.PagePlaces.{changed_at}
use Rattle.vm_types.specs.declared.names.BlockId.{BlockId}
use Rattle.vm_types.specs.declared.names.BlockId.TheVariants as block
use Rattle.vm_types.specs.declared.names.Page.{Page}
use Rattle.vm_types.specs.declared.names.Page.TheVariants.{Private, Shared}
use Rattle.page_file.specs.Blocks.{Blocks}
use Rattle.state_parts.specs.declared.charged_page.ChargedPage.{ChargedPage}

-- ---- a write begins
abbrev pub with_block : ℕ → ChargedPage → ChargedPage
with_block n row = record row { assigned = Some n }

-- a page that is written to the page file has that block
abbrev pub given_row : BlockId → Option ChargedPage → Option ChargedPage
given_row (block.PageFile n) row = option_map (with_block n) row
given_row other row = row

abbrev pub taken_if : Option ℕ → Page → ℕ → Blocks → Blocks
taken_if None g n file = record file { owners = slice_set file.owners n (Some g) }
taken_if (Some m) g n file = file

abbrev pub taken_by : Option ChargedPage → Page → ℕ → Blocks → Blocks
taken_by None g n file = file
taken_by (Some row) g n file = taken_if row.assigned g n file

-- and the page file says so, if the page had none
abbrev pub block_taken : BlockId → Page → Option ChargedPage → Blocks → Blocks
block_taken (block.PageFile n) g row file = taken_by row g n file
block_taken other g row file = file

-- ---- a write lands, and the page wasn't modified meanwhile
abbrev pub lying_in : BlockId → ChargedPage → ChargedPage
lying_in b row = record row { lies = Some b }

-- nothing lies in a swap block that the page lay in
abbrev pub slot_emptied : Option BlockId → (ℕ → ℕ → Option ℕ) → ℕ → ℕ → Option ℕ
slot_emptied (Some (block.Swap p n)) swapped q m = changed_at swapped p.0 n None q m
slot_emptied other swapped q m = swapped q m

-- the page of this number lies in the block, if it is a swap block
abbrev pub slot_filled : BlockId → ℕ → (ℕ → ℕ → Option ℕ) → ℕ → ℕ → Option ℕ
slot_filled (block.Swap p n) v swapped q m = changed_at swapped p.0 n (Some v) q m
slot_filled other v swapped q m = swapped q m

-- from where a page lay to the block; no shared page lies in a swap block
abbrev pub swaps_moved : Page → BlockId → Option BlockId → (ℕ → ℕ → Option ℕ) → ℕ → ℕ → Option ℕ
swaps_moved (Private p v) b lies swapped q m = slot_filled b v (slot_emptied lies swapped) q m
swaps_moved (Shared s i) b lies swapped q m = swapped q m

-- of a page of which this is kept
abbrev pub swaps_written : Page → BlockId → Option ChargedPage → (ℕ → ℕ → Option ℕ) → ℕ → ℕ → Option ℕ
swaps_written g b None swapped q m = swapped q m
swaps_written g b (Some row) swapped q m = swaps_moved g b row.lies swapped q m

-- ---- a write lands: a page that was modified meanwhile, or whose write failed, lies where it lay
abbrev pub landed_row : Bool → BlockId → Option ChargedPage → Option ChargedPage
landed_row modify b row = if modify then row else option_map (lying_in b) row

abbrev pub swaps_landed : Bool → Page → BlockId → Option ChargedPage → (ℕ → ℕ → Option ℕ) → ℕ → ℕ → Option ℕ
swaps_landed modify g b row swapped q m = if modify then swapped q m else swaps_written g b row swapped q m
