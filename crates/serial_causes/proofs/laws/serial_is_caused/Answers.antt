use Rattle.serial_causes.proofs.SerialCaused.{serial_caused}
use Rattle.serial_causes.proofs.laws.serial_is_caused.Goals as goal

pub returns : goal.returns
returns c = serial_caused
