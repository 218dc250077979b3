-- The numbers under which pages and blocks are kept. Source: this project's own.
use Rattle.std.specs.Prelude.{ℕ, ◌+◌, ◌*◌}
use Rattle.vm_types.specs.declared.limits.TheConstants.{MOST_EXTENT, MOST_SECTIONS, MOST_SECTION_PAGES}
use Rattle.vm_types.specs.declared.names.BlockId.{BlockId}
use Rattle.vm_types.specs.declared.names.BlockId.TheVariants.{Section, PageFile, Swap}

-- a page by its process and its address divided by 512
abbrev pub page_key : ℕ → ℕ → ℕ
page_key p page = 8388608 * p + page

-- so many numbers are kept for the section blocks, and as many for those of the page file
abbrev pub kind_keys : ℕ
kind_keys = MOST_SECTIONS * MOST_SECTION_PAGES

-- a block by the number of its section, process or none, and its own
abbrev pub block_key : BlockId → ℕ
block_key (Section s page) = MOST_SECTION_PAGES * s.0 + page
block_key (PageFile b) = kind_keys + b
block_key (Swap p slot) = 2 * kind_keys + MOST_EXTENT * p.0 + slot
