use Rattle.cause_laws.proofs.HeldUp.{service_held}
use Rattle.cause_laws.proofs.laws.stopped_service_is_held_up.Goals as goal

pub returns : goal.returns
returns c config past p s ready = service_held config past p ready s
