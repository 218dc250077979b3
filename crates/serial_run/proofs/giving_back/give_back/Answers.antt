use Rattle.std.proofs.Common.{map}
use Rattle.disk_trait.specs.DepotView.{given_back}
use Rattle.serial_run.proofs.AskedOnce.{asked}
use Rattle.serial_run.proofs.giving_back.give_back.Goals as goal

pub returns-clause-asked : goal.returns-clause-asked
returns-clause-asked g c = (
  map (given_back g.D.Block.Block.seen) c.finish-blocks.result.2.items,
  c.in_ok-retire_blocks.ensures.ok,
  asked g.D.Block.Block.seen g.D.Block.Block.tells c.args.state.config c.args.state.past c.finish-blocks.result.2.items c.finish-blocks.ensures.names c.finish-blocks.ensures.blocks,
)
