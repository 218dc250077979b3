use Rattle.std.proofs.Common.{sym}
use Rattle.fault_core.proofs.KnownPages.{owner_known}
use Rattle.fault_core.proofs.cluster.following_owner.Goals as goal

pub backing-there-requires-after_bounds : goal.backing-there-requires-after_bounds
backing-there-requires-after_bounds g c κs within =
    owner_known c.args.state.now.config c.args.state.now.past c.args.n c.in-Some.h c.run_law.ensures.formed c.run_law.ensures.run (sym c.in-Some.ensures)
