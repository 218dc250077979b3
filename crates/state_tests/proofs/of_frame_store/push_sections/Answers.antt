use Rattle.std.proofs.Common.{◌+◌, ◌/◌, ◌++◌, ◌∙◌, ap, length, map, arith}
use Rattle.std.specs.List.{range_with_len}
use Rattle.std.proofs.lemmas.List.Sums.{get_or-le-sum_by}
use Rattle.vm_types.specs.Configuration.{section_pages}
use Rattle.vm_types.specs.SectionBlocks.{section_block_count}
use Rattle.vm_types.specs.declared.names.BlockId.TheVariants as block
use Rattle.vm_types.proofs.SectionBlocks.{few_blocks}
use Rattle.frame_store.specs.Blocks.{section_block}
use Rattle.state_tests.specs.TestStore.{in_row}
use Rattle.run_blocks.proofs.RowsMade.{row_more}
use Rattle.state_tests.proofs.of_frame_store.push_sections.Goals as goal

pub overflow_cast-blocks : goal.overflow_cast-blocks
overflow_cast-blocks c =
    let most = get_or-le-sum_by section_pages c.args.sections.now c.loop-section.section-index c.section-item.result c.loop-section-test.true in
    let same = ap section_pages c.section-item.is in
    omega (arith, most, same, few_blocks c.section-item.result, c.section_block_count-blocks.ensures, c.requires.pages)

pub loop-section-preserved : goal.loop-section-preserved
loop-section-preserved c =
    let i = c.loop-section.section-index in
    record {
      number = ap (λ n. n + 1) c.loop-section.invariant.number;
      ids = row_more section_block section_block_count c.args.sections.now i c.section-item.result c.loop-section.ids.items c.push_row.new.ids.items _ c.loop-section-test.true c.section-item.is
          (c.in_ok-push_row.ensures ∙ (λ j. c.loop-section.ids.items ++ map (in_row (block.Section (record { 0 = c.loop-section.invariant.number j }) 0)) (range_with_len 0 (c.section_block_count-blocks.ensures j))))
          c.loop-section.invariant.ids;
    }
