use Rattle.std.proofs.Common.{◌∙◌, ap, sym}
use Rattle.std.specs.Option.{option_map}
use Rattle.vm_types.specs.declared.names.BlockId.TheVariants.{PageFile}
use Rattle.pager_policy.specs.WriteCluster.{is_free_block}
use Rattle.shadow_pager.specs.Shown.{shown}
use Rattle.log_rundown.proofs.Ranges.{find_here, find_next, find_none}
use Rattle.log_rundown.proofs.blocks.lowest_free.Goals as goal

pub loop-n-preserved : goal.loop-n-preserved
loop-n-preserved c =
    c.loop-n.invariant
    ∙ find_next (is_free_block c.args.config.now (shown c.args.pager.now).pager) c.loop-n.n c.args.config.now.pagefile c.loop-n-test.true (sym c.is_free_block.ensures ∙ c.if-is_free_block.false)

pub returns-then-is_free_block : goal.returns-then-is_free_block
returns-then-is_free_block c =
    sym (ap (option_map PageFile) (c.loop-n.invariant
    ∙ find_here (is_free_block c.args.config.now (shown c.args.pager.now).pager) c.loop-n.n c.args.config.now.pagefile c.loop-n-test.true (sym c.is_free_block.ensures ∙ c.if-is_free_block.true)))

pub returns : goal.returns
returns c =
    sym (ap (option_map PageFile) (c.loop-n.invariant
    ∙ find_none (is_free_block c.args.config.now (shown c.args.pager.now).pager) c.loop-n.n c.args.config.now.pagefile c.loop-n-test.false))
