use Rattle.std.proofs.Common.{sym}
use Rattle.vm_swapper.proofs.SwapBlocks.{lying_known}
use Rattle.vm_swapper.proofs.come.back_at.Goals as goal

pub backing-requires-after_bounds : goal.backing-requires-after_bounds
backing-requires-after_bounds g c κs within = lying_known c.args.state.now.config c.args.state.now.past c.run_law.ensures.formed c.run_law.ensures.run ((c.args.run).p).0 (c.args.run).slot c.in-Some.page (sym c.in-Some.ensures)
