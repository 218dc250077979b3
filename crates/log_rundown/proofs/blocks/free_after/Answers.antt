use Rattle.shadow_pager.specs.Shown.{shown}
use Rattle.log_rundown.proofs.FreeBlocks.{none_after}
use Rattle.log_rundown.proofs.blocks.free_after.Goals as goal

pub returns-then-n-config : goal.returns-then-n-config
returns-then-n-config c = none_after c.args.config.now (shown c.args.pager.now).pager c.args.n c.if-n-config.true
