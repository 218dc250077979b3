use Rattle.std.proofs.Common.{IsTrue}
use Rattle.shadow_pager.specs.Shown.{shown}
use Rattle.row_frames.proofs.OutBlocks.{own_blocks}
use Rattle.row_frames.proofs.writes.is_paged_block.Goals as goal

pub returns : goal.returns
returns c = own_blocks c.args.config.now (shown c.args.pager.now).pager c.args.page c.args.n (IsTrue c.is_own_block.result) c.requires c.is_own_block.ensures
