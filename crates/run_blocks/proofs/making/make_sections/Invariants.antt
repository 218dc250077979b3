use Rattle.std.proofs.Common.{◌≡◌, ◌≤◌, ◌++◌, drop}
use Rattle.frame_store.specs.Blocks.{block_counts, row_by_row, section_block, section_blocks}
use Rattle.run_blocks.specs.Adds.{AreMade, names_of}
use Rattle.run_blocks.proofs.making.make_sections.Given as goal

-- what was made and what is to come are the blocks of all sections
abbrev pub invariant-loop-s : goal.invariant-loop-s
invariant-loop-s g l = record {
  names : names_of l.blocks.items ++ row_by_row section_block l.s (block_counts (drop l.s l.config.sections)) ≡ names_of l.initial.blocks.items ++ section_blocks l.config.sections;
  made : AreMade g.D.Block.Block.seen g.D.Block.Block.tells l.config l.initial.blocks.items
      → AreMade g.D.Block.Block.seen g.D.Block.Block.tells l.config l.blocks.items;
  retired : (g.D.Depot.seen l.depot).retired ≡ (g.D.Depot.seen l.initial.depot).retired;
  later : (g.D.Depot.seen l.initial.depot).failures ≤ (g.D.Depot.seen l.depot).failures;
}
