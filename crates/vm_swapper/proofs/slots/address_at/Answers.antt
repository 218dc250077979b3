use Rattle.std.proofs.Common.{sym}
use Rattle.vm_swapper.proofs.SwapBlocks.{lying_known, lying_small}
use Rattle.vm_swapper.proofs.slots.address_at.Goals as goal

pub is_out-requires-after_bounds : goal.is_out-requires-after_bounds
is_out-requires-after_bounds g c κs within = lying_known c.args.state.now.config c.args.state.now.past c.run_law.ensures.formed c.run_law.ensures.run (c.args.p).0 c.args.n c.in-Some.page (sym c.in-Some.ensures)

pub address_of-requires : goal.address_of-requires
address_of-requires g c = lying_small c.args.state.now.config c.args.state.now.past c.run_law.ensures.formed c.run_law.ensures.run (c.args.p).0 c.args.n c.in-Some.page (sym c.in-Some.ensures)
