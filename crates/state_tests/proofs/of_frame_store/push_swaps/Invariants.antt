use Rattle.std.proofs.Common.{◌≡◌, ◌++◌, drop}
use Rattle.frame_store.specs.Blocks.{extents, row_by_row, swap_block, swap_blocks}
use Rattle.state_tests.proofs.of_frame_store.push_swaps.Given as goal

-- what is added and what is to come are the swap blocks of all processes
abbrev pub invariant-loop-spec : goal.invariant-loop-spec
invariant-loop-spec l = record {
  number : l.number ≡ l.spec-index;
  ids : l.ids.items ++ row_by_row swap_block l.spec-index (extents (drop l.spec-index l.procs)) ≡ l.fn.ids.items ++ swap_blocks l.procs;
}
