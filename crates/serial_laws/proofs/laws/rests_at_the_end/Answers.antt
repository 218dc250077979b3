use Rattle.serial_laws.proofs.Kept.{rests_last}
use Rattle.serial_laws.proofs.laws.rests_at_the_end.Goals as goal

pub returns : goal.returns
returns c = rests_last
