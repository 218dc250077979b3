use Rattle.policy_ends.proofs.BodyMoves.{placed}
use Rattle.policy_ends.proofs.one_by_one.bodies_have_no_rundown.Goals as goal

pub returns : goal.returns
returns c config past at formed run serial = (placed config serial.told past at formed serial.reached run).none
