use Rattle.std.proofs.Common.{◌∙◌, arith}
use Rattle.frame_store.specs.Blocks.{swap_block}
use Rattle.run_blocks.proofs.Added.{added_item}
use Rattle.run_blocks.proofs.making.make_swap.Goals as goal

pub loop-n-preserved : goal.loop-n-preserved
loop-n-preserved g c =
    let one = c.in_ok-make_one_of_zeros.ensures in
    record {
      adds = added_item _ _ _ (swap_block (c.args.p).0) c.loop-n.n _ _ _ c.loop-n.invariant.adds one.adds;
      retired = one.retired ∙ c.loop-n.invariant.retired;
      later = omega (arith, one.cause.later, c.loop-n.invariant.later);
    }
