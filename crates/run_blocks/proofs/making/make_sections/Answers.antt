use Rattle.std.proofs.Common.{◌<◌, ◌∙◌, length, List, subst, arith}
use Rattle.vm_types.specs.SectionBlocks.{section_block_count}
use Rattle.vm_types.specs.declared.config.Section.{Section}
use Rattle.frame_store.specs.Blocks.{section_block}
use Rattle.run_blocks.proofs.RowsMade.{row_more}
use Rattle.run_blocks.specs.Adds.{names_of}
use Rattle.run_blocks.proofs.making.make_sections.Goals as goal

pub loop-s-preserved : goal.loop-s-preserved
loop-s-preserved g c =
    let one = c.in_ok-make_section.ensures in
    let old = c.loop-s.invariant in
    record {
      names = row_more section_block section_block_count c.args.config.now.sections c.loop-s.s c.section-item.result (names_of c.loop-s.blocks.items) _ _
          (subst (λ (xs : List Section). c.loop-s.s < length xs) c.items-section-items.ensures c.loop-s-test.true) (cc) one.adds.names old.names;
      made = λ first. one.adds.made (old.made first);
      retired = one.retired ∙ old.retired;
      later = omega (arith, one.cause.later, old.later);
    }
