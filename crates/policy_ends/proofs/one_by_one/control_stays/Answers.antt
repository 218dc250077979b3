use Rattle.policy_ends.proofs.ControlStays.{control_stays}
use Rattle.policy_ends.proofs.one_by_one.control_stays.Goals as goal

pub returns : goal.returns
returns c config task past at formed run serial = control_stays config task past at formed run serial
