use Rattle.std.proofs.Common.{◌<◌, ◌∙◌, get_or, length, List, subst, arith}
use Rattle.vm_types.specs.declared.config.ProcSpec.{ProcSpec}
use Rattle.frame_store.specs.Blocks.{swap_block}
use Rattle.run_blocks.proofs.RowsMade.{row_more}
use Rattle.run_blocks.specs.Adds.{names_of}
use Rattle.run_blocks.proofs.ListItems.{item_read}
use Rattle.run_blocks.proofs.making.make_swaps.Goals as goal

abbrev none : ProcSpec
none = record { limit = 0; quota = 0; extent = 0; locks = 0 }

pub loop-p-preserved : goal.loop-p-preserved
loop-p-preserved g c =
    let one = c.in_ok-make_swap.ensures in
    let old = c.loop-p.invariant in
    record {
      names = row_more swap_block (λ (spec : ProcSpec). spec.extent) c.args.config.now.procs c.loop-p.p (get_or c.items-spec-items.result.now c.loop-p.p none) (names_of c.loop-p.blocks.items) _ _
          (subst (λ (xs : List ProcSpec). c.loop-p.p < length xs) c.items-spec-items.ensures c.loop-p-test.true)
          (item_read c.items-spec-items.result.now c.args.config.now.procs c.loop-p.p none c.items-spec-items.ensures c.loop-p-test.true) one.adds.names old.names;
      made = λ first. one.adds.made (old.made first);
      retired = one.retired ∙ old.retired;
      later = omega (arith, one.cause.later, old.later);
    }
