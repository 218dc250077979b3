use Rattle.serial_causes.proofs.RundownCaused.{rundown_caused}
use Rattle.serial_causes.proofs.laws.rundown_is_caused.Goals as goal

pub returns : goal.returns
returns c = rundown_caused
