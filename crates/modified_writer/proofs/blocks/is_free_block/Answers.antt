use Rattle.std.proofs.Common.{◌<◌, subst}
use Rattle.vm_types.specs.declared.config.Config.{Config}
use Rattle.vm_state.specs.History.{pager}
use Rattle.modified_writer.proofs.FreeBlocks.{free_shown}
use Rattle.modified_writer.proofs.blocks.is_free_block.Goals as goal

pub returns-then-n-config : goal.returns-then-n-config
returns-then-n-config g c =
    free_shown c.args.state.now.config (pager c.args.state.now) c.args.n c.owner.result c.is_none.result
    (subst (λ (x : Config). c.args.n < x.pagefile) c.config.ensures c.if-n-config.true) c.owner.ensures c.is_none.ensures
