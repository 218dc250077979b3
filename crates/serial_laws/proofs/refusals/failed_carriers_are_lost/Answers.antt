use Rattle.serial_laws.proofs.LostCarriers.{lost_when_failed}
use Rattle.serial_laws.proofs.refusals.failed_carriers_are_lost.Goals as goal

pub returns : goal.returns
returns c = lost_when_failed
