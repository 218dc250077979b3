use Rattle.std.proofs.Common.{◌≡◌, ◌≤◌, map}
use Rattle.std.specs.List.{range_with_len}
use Rattle.vm_types.specs.declared.names.BlockId.TheVariants as block
use Rattle.run_blocks.specs.Adds.{Adds}
use Rattle.run_blocks.proofs.making.make_file.Given as goal

abbrev pub invariant-loop-n : goal.invariant-loop-n
invariant-loop-n g l = record {
  adds : Adds g.D.Block.Block.seen g.D.Block.Block.tells l.config
      (map block.PageFile (range_with_len 0 l.n)) l.initial.blocks.items l.blocks.items;
  retired : (g.D.Depot.seen l.depot).retired ≡ (g.D.Depot.seen l.initial.depot).retired;
  later : (g.D.Depot.seen l.initial.depot).failures ≤ (g.D.Depot.seen l.depot).failures;
}
