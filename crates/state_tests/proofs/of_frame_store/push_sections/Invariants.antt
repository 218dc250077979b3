use Rattle.std.proofs.Common.{◌≡◌, ◌++◌, drop}
use Rattle.frame_store.specs.Blocks.{block_counts, row_by_row, section_block, section_blocks}
use Rattle.state_tests.proofs.of_frame_store.push_sections.Given as goal

-- what is added and what is to come are the blocks of all sections
abbrev pub invariant-loop-section : goal.invariant-loop-section
invariant-loop-section l = record {
  number : l.number ≡ l.section-index;
  ids : l.ids.items ++ row_by_row section_block l.section-index (block_counts (drop l.section-index l.sections)) ≡ l.fn.ids.items ++ section_blocks l.sections;
}
