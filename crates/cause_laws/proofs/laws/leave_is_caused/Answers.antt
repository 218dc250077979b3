use Rattle.cause_laws.proofs.LeaveCaused.{leave_caused}
use Rattle.cause_laws.proofs.laws.leave_is_caused.Goals as goal

pub returns : goal.returns
returns c = leave_caused
