-- The parts of the state, but for buffers and blocks. This project's own.
use Rattle.std.specs.Prelude.{ℕ, List, Option}
use Rattle.vm_types.specs.declared.names.BlockId.{BlockId}
use Rattle.vm_journal.specs.declared.entry.Role.{Role}
use Rattle.pfn_database.specs.Frames.{Frames}
use Rattle.page_tables.specs.PageTables.{PageTables}
use Rattle.section_table.specs.SectionTable.{SectionTable}
use Rattle.global_pages.specs.GlobalPages.{GlobalPages}
use Rattle.page_file.specs.Blocks.{Blocks}
use Rattle.state_parts.specs.ChargedTable.{ChargedTable}
use Rattle.state_parts.specs.SwapTable.{SwapTable}
use Rattle.state_parts.specs.declared.process_row.ProcessRow.{ProcessRow}
use Rattle.state_parts.specs.declared.spoken_row.SpokenRow.{SpokenRow}

-- the PFN database; by frame the number of the entry that began its open flight, and the role of that, if it
-- is a read; by process its row and its spoken entries; the page tables, what is behind their pages, and what
-- is kept of charged pages; the global pages; the page file; the swap blocks; by seat how many flights are
-- open, and how many are in all; and the block of the failed read whose frame awaits its reuse
pub record Parts : Type 0 where
  pub frames : Frames
  pub starts : List (Option ℕ)
  pub roles : List (Option Role)
  pub processes : List ProcessRow
  pub spoken : List SpokenRow
  pub tables : PageTables
  pub sections : SectionTable
  pub pages : ChargedTable
  pub globals : GlobalPages
  pub file : Blocks
  pub swaps : SwapTable
  pub busy : List ℕ
  pub in_flight : ℕ
  pub failed : Option BlockId
