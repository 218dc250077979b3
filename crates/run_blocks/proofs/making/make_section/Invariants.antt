use Rattle.std.proofs.Common.{◌≡◌, ◌≤◌, map}
use Rattle.std.specs.List.{range_with_len}
use Rattle.frame_store.specs.Blocks.{section_block}
use Rattle.run_blocks.specs.Adds.{Adds}
use Rattle.run_blocks.proofs.making.make_section.Given as goal

abbrev pub invariant-loop-i : goal.invariant-loop-i
invariant-loop-i g l = record {
  adds : Adds g.D.Block.Block.seen g.D.Block.Block.tells l.config
      (map (section_block l.s.0) (range_with_len 0 l.i)) l.initial.blocks.items l.blocks.items;
  retired : (g.D.Depot.seen l.depot).retired ≡ (g.D.Depot.seen l.initial.depot).retired;
  later : (g.D.Depot.seen l.initial.depot).failures ≤ (g.D.Depot.seen l.depot).failures;
}
