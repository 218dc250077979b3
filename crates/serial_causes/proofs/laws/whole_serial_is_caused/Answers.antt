use Rattle.serial_causes.proofs.RundownCaused.{whole_caused}
use Rattle.serial_causes.proofs.laws.whole_serial_is_caused.Goals as goal

pub returns : goal.returns
returns c = whole_caused
