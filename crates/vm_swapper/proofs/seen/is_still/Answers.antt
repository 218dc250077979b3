use Rattle.vm_swapper.proofs.SlotsSeen.{still_is}
use Rattle.vm_swapper.proofs.seen.is_still.Goals as goal

pub returns : goal.returns
returns g c = still_is c.args.state.now (c.args.f).0 c.frame.result c.frame.ensures
