use Rattle.std.proofs.Common.{◌+◌, ◌++◌, ◌∙◌, ap, map, slice_index_or}
use Rattle.std.specs.List.{range_with_len}
use Rattle.std.proofs.lemmas.List.{get_or_default}
use Rattle.vm_types.specs.declared.config.ProcSpec.{ProcSpec}
use Rattle.vm_types.specs.declared.names.BlockId.TheVariants as block
use Rattle.frame_store.specs.Blocks.{swap_block}
use Rattle.state_tests.specs.TestStore.{in_row}
use Rattle.run_blocks.proofs.RowsMade.{row_more}
use Rattle.state_tests.proofs.of_frame_store.push_swaps.Goals as goal

pub loop-spec-preserved : goal.loop-spec-preserved
loop-spec-preserved c =
    let i = c.loop-spec.spec-index in
    let none : ProcSpec = record { limit = 0; quota = 0; extent = 0; locks = 0 } in
    let spec : ProcSpec = slice_index_or c.args.procs.now i none in
    record {
      number = ap (λ n. n + 1) c.loop-spec.invariant.number;
      ids = row_more swap_block (λ (x : ProcSpec). x.extent) c.args.procs.now i spec c.loop-spec.ids.items c.push_row.new.ids.items _ c.loop-spec-test.true (get_or_default c.args.procs.now i none spec c.loop-spec-test.true)
          (c.in_ok-push_row.ensures ∙ (λ j. c.loop-spec.ids.items ++ map (in_row (block.Swap (record { 0 = c.loop-spec.invariant.number j }) 0)) (range_with_len 0 spec.extent)))
          c.loop-spec.invariant.ids;
    }
