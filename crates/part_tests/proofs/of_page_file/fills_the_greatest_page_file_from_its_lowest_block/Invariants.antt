use Rattle.page_file.specs.Blocks.{AreBlocks}
use Rattle.part_tests.proofs.of_page_file.fills_the_greatest_page_file_from_its_lowest_block.Given as goal

abbrev pub invariant-loop-block : goal.invariant-loop-block
invariant-loop-block g l = AreBlocks l.file
