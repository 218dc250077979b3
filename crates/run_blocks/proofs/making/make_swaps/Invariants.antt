use Rattle.std.proofs.Common.{◌≡◌, ◌≤◌, ◌++◌, drop}
use Rattle.frame_store.specs.Blocks.{extents, row_by_row, swap_block, swap_blocks}
use Rattle.run_blocks.specs.Adds.{AreMade, names_of}
use Rattle.run_blocks.proofs.making.make_swaps.Given as goal

-- what was made and what is to come are the blocks of all processes
abbrev pub invariant-loop-p : goal.invariant-loop-p
invariant-loop-p g l = record {
  names : names_of l.blocks.items ++ row_by_row swap_block l.p (extents (drop l.p l.config.procs)) ≡ names_of l.initial.blocks.items ++ swap_blocks l.config.procs;
  made : AreMade g.D.Block.Block.seen g.D.Block.Block.tells l.config l.initial.blocks.items
      → AreMade g.D.Block.Block.seen g.D.Block.Block.tells l.config l.blocks.items;
  retired : (g.D.Depot.seen l.depot).retired ≡ (g.D.Depot.seen l.initial.depot).retired;
  later : (g.D.Depot.seen l.initial.depot).failures ≤ (g.D.Depot.seen l.depot).failures;
}
