-- The blocks of a configuration in their order, and what is in its place. This project's own.
use Rattle.std.specs.Prelude.{ℕ, ◌+◌, ◌++◌, List, [], ◌∷◌, Option, None, map, slice_index_or}
use Rattle.std.specs.List.{position_or_len, range_with_len}
use Rattle.vm_types.specs.Configuration.{section_pages}
use Rattle.vm_types.specs.Same.{same_block}
use Rattle.vm_types.specs.SectionBlocks.{section_block_count}
use Rattle.vm_types.specs.declared.config.Config.{Config}
use Rattle.vm_types.specs.declared.config.ProcSpec.{ProcSpec}
use Rattle.vm_types.specs.declared.config.Section.{Section}
use Rattle.vm_types.specs.declared.names.BlockId.{BlockId}
use Rattle.vm_types.specs.declared.names.BlockId.TheVariants as block

-- rows of these lengths, one after another, from a row's number on: the blocks of row s are `name s` of 0, 1 and so on
abbrev pub row_by_row : (ℕ → ℕ → BlockId) → ℕ → List ℕ → List BlockId
row_by_row name row [] = []
row_by_row name row (n ∷ lengths) = map (name row) (range_with_len 0 n) ++ row_by_row name (row + 1) lengths

abbrev pub section_block : ℕ → ℕ → BlockId
section_block s page = block.Section (record { 0 = s }) page

abbrev pub swap_block : ℕ → ℕ → BlockId
swap_block p slot = block.Swap (record { 0 = p }) slot

abbrev pub page_counts : List Section → List ℕ
page_counts sections = map section_pages sections

-- of section blocks, of which a section in the page file has none
abbrev pub block_counts : List Section → List ℕ
block_counts sections = map section_block_count sections

abbrev pub extents : List ProcSpec → List ℕ
extents procs = map (λ (spec : ProcSpec). spec.extent) procs

abbrev pub section_blocks : List Section → List BlockId
section_blocks sections = row_by_row section_block 0 (block_counts sections)

abbrev pub file_blocks : ℕ → List BlockId
file_blocks size = map block.PageFile (range_with_len 0 size)

abbrev pub swap_blocks : List ProcSpec → List BlockId
swap_blocks procs = row_by_row swap_block 0 (extents procs)

-- the section blocks by section and page, those of the page file, and the swap blocks by process and slot
unfoldable pub blocks_of : Config → List BlockId
blocks_of config = section_blocks config.sections ++ (file_blocks config.pagefile ++ swap_blocks config.procs)

-- the place of a block in a list of blocks; past them all if it isn't one of them
abbrev pub number_in : List BlockId → BlockId → ℕ
number_in ids b = position_or_len (same_block b) ids

-- the number of a configuration's block
abbrev pub number_of : Config → BlockId → ℕ
number_of config b = number_in (blocks_of config) b

-- what is in a place, if it isn't out
abbrev pub held_at : {X : Type 0} → List (Option X) → ℕ → Option X
held_at places n = slice_index_or places n None

-- a configuration's block, if it isn't out
abbrev pub block_at : {B : Type 0} → Config → List (Option B) → BlockId → Option B
block_at config blocks b = held_at blocks (number_of config b)
