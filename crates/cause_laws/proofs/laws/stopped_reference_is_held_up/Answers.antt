use Rattle.cause_laws.proofs.HeldUp.{reference_held}
use Rattle.cause_laws.proofs.laws.stopped_reference_is_held_up.Goals as goal

pub returns : goal.returns
returns c = reference_held
