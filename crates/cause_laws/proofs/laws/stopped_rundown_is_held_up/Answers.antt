use Rattle.cause_laws.proofs.HeldUp.{rundown_held}
use Rattle.cause_laws.proofs.laws.stopped_rundown_is_held_up.Goals as goal

pub returns : goal.returns
returns c = rundown_held
