use Rattle.cause_laws.proofs.HeldUp.{leaving_held}
use Rattle.cause_laws.proofs.laws.stopped_leaving_is_held_up.Goals as goal

pub returns : goal.returns
returns c = leaving_held
