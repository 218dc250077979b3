use Rattle.serial_laws.proofs.RefusedOnce.{failures_refuse_once}
use Rattle.serial_laws.proofs.refusals.failures_refuse_once.Goals as goal

pub returns : goal.returns
returns c = failures_refuse_once
