use Rattle.serial_laws.proofs.Kept.{moves_longer}
use Rattle.serial_laws.proofs.laws.moves_add_entries.Goals as goal

pub returns : goal.returns
returns c = moves_longer
