use Rattle.std.proofs.Common.{◌<◌, sym, ap, ◌∙◌, subst, arith}
use Rattle.vm_types.specs.Configuration.{IsBlock}
use Rattle.pager_policy.specs.WriteCluster.{new_block}
use Rattle.vm_state.specs.History.{pager}
use Rattle.modified_writer.proofs.FreeBlocks.{lowest_is}
use Rattle.modified_writer.proofs.blocks.new_block.Goals as goal

pub overflow_add-n : goal.overflow_add-n
overflow_add-n g c =
    let there : c.in-PageFile.n < c.args.state.now.config.pagefile = subst (IsBlock c.args.state.now.config) c.in-PageFile.is (c.requires.last c.in-Some.b c.in-Some.is) in
    let small = c.requires.formed.pagefile.1 in omega (arith, there, small)

pub returns-in-None : goal.returns-in-None
returns-in-None g c =
    sym (ap (new_block c.args.state.now.config (pager c.args.state.now)) c.in-None.is
    ∙ lowest_is c.args.state.now.config (pager c.args.state.now) c.lowest.result c.lowest.ensures.exists c.lowest.ensures.free c.lowest.ensures.least)
