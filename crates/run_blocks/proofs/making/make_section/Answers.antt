use Rattle.std.proofs.Common.{◌∙◌, ◌*◌, ◌+◌, ◌-◌, List, ℕ, ap, drop, length, sym, take, arith}
use Rattle.vm_types.specs.declared.limits.TheConstants.{PAGE_BYTES}
use Rattle.vm_types.proofs.SectionBlocks.{few_blocks}
use Rattle.frame_store.specs.Blocks.{section_block}
use Rattle.run_blocks.proofs.Added.{added_item}
use Rattle.run_blocks.proofs.SectionBytes.{few_pages, page_bytes}
use Rattle.run_blocks.proofs.making.make_section.Goals as goal

pub loop-i-preserved : goal.loop-i-preserved
loop-i-preserved g c =
    let one = c.in_ok-make_one.ensures in
    record {
      adds = added_item _ _ _ (section_block (c.args.s).0) c.loop-i.i _ _ _ c.loop-i.invariant.adds one.adds;
      retired = one.retired ∙ c.loop-i.invariant.retired;
      later = omega (arith, one.cause.later, c.loop-i.invariant.later);
    }

pub overflow_cast-i-end : goal.overflow_cast-i-end
overflow_cast-i-end g c =
    let few = few_pages c.args.config.now.sections (c.args.s).0 c.args.section.now c.requires.formed.sections.pages (sym c.requires.there) in
    omega (arith, few, few_blocks c.args.section.now, c.section_block_count-i-end.ensures)

pub make_one-requires-clause-first : goal.make_one-requires-clause-first
make_one-requires-clause-first g c κs within =
    ap (λ (bytes : List ℕ). take (PAGE_BYTES * c.loop-i.i + PAGE_BYTES - PAGE_BYTES * c.loop-i.i) (drop (PAGE_BYTES * c.loop-i.i) bytes)) c.items-bytes.ensures
    ∙ page_bytes c.args.config.now (c.args.s).0 c.loop-i.i c.args.section.now (sym c.requires.there)

pub slice_bounds-make_one-end : goal.slice_bounds-make_one-end
slice_bounds-make_one-end g c =
    let few = few_blocks c.args.section.now in
    omega (arith, c.loop-i-test.true, c.section_block_count-i-end.ensures, few, ap length c.items-bytes.ensures)
