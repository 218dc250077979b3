-- One write cluster of the modified page writer. Source: Kenah and Bate, "VAX/VMS Internals and Data
-- Structures", the modified page writer; that the list's longest prefix of adjoining blocks is taken is
-- this project's own.
use Rattle.std.specs.Prelude.{ℕ, zero, suc, Bool, ◌+◌, ◌&&◌, ◌||◌, List, [], ◌∷◌, Option, Some, None, length, find, count_by, nat_eq, nat_le, nat_lt, if◌then◌else◌}
use Rattle.std.specs.Option.{option_map}
use Rattle.std.specs.List.{range_with_len}
use Rattle.vm_types.specs.declared.names.Page.{Page}
use Rattle.vm_types.specs.declared.names.BlockId.{BlockId}
use Rattle.vm_types.specs.declared.names.BlockId.TheVariants as block
use Rattle.vm_types.specs.declared.config.Config.{Config}
use Rattle.vm_journal.specs.declared.entry.What.{What}
use Rattle.vm_journal.specs.declared.entry.What.TheVariants as what
use Rattle.pager_policy.specs.Given.{Given, given}
use Rattle.pager_model.specs.Maps.{pfn, is_paged}
use Rattle.vm_types.specs.BlockOrder.{if_next}
use Rattle.pager_model.specs.Lookups.{block_of, is_owner}
use Rattle.pager_model.specs.Pager.{Pager}

-- because the list is long, or because room is needed on it
pub data Reason : Type 0 where
  reason_high : Reason
  reason_need : Reason

pub data BeginIs : Type 0 where
  begin_carry : BeginIs
  begin_nothing : BeginIs

abbrev pub is_free_block : Config → Pager → ℕ → Bool
is_free_block config a n = nat_lt n config.pagefile && nat_eq (count_by (is_owner (block.PageFile n)) a.assigned) 0

-- the lowest page file block that is free
abbrev pub lowest_free : Config → Pager → Option BlockId
lowest_free config a = option_map block.PageFile (find (is_free_block config a) (range_with_len 0 config.pagefile))

-- a page without a block takes the lowest free block if it comes first, and later the next block of the
-- page file if that is free
abbrev pub new_block : Config → Pager → Option BlockId → Option BlockId
new_block config a None = lowest_free config a
new_block config a (Some (block.PageFile n)) = if is_free_block config a (n + 1) then Some (block.PageFile (n + 1)) else None
new_block config a (Some other) = None

abbrev pub paged_block : Config → Pager → Option BlockId → Option ℕ → Option BlockId
paged_block config a last (Some n) = if_next last (block.PageFile n)
paged_block config a last None = new_block config a last

abbrev pub filed_block : Option BlockId → Option BlockId → Option BlockId
filed_block last None = None
filed_block last (Some b) = if_next last b

abbrev pub block_out : Config → Pager → Option BlockId → Option Page → Option BlockId
block_out config a last None = None
block_out config a last (Some g) =
    if is_paged config g then paged_block config a last (block_of a.assigned g) else filed_block last (a.lies g)

abbrev pub writes_taken : ℕ → ℕ → Option BlockId → (BlockId → ℕ → List What) → List What
writes_taken f zero o rest = []
writes_taken f (suc m) None rest = []
writes_taken f (suc m) (Some b) rest = what.Out (pfn f) b ∷ rest b m

-- the frames of a cluster with their blocks, n at most: from the list's head on, as long as the blocks adjoin
abbrev pub writes_from : Config → Pager → ℕ → Option BlockId → List ℕ → List What
writes_from config a n last [] = []
writes_from config a n last (f ∷ frames) = writes_taken f n (block_out config a last (a.page f)) (λ (b : BlockId) (m : ℕ). writes_from config a m (Some b) frames)

abbrev pub is_enough : Config → Pager → Reason → Bool
is_enough config a reason_high = nat_le (length a.modified) config.params.lolimit
is_enough config a reason_need = nat_eq (length a.modified) 0

-- at most WRTCLUSTER writes; nothing where the list is empty, or short enough
abbrev pub begin_gives : Config → Pager → Reason → Given BeginIs
begin_gives config a reason =
    if is_enough config a reason || nat_eq (length a.modified) 0 then given [] begin_nothing
    else given (writes_from config a config.params.wrtcluster None a.modified) begin_carry
