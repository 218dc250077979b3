use Rattle.content_laws.proofs.LiftsStay.{lifts_stay}
use Rattle.content_laws.proofs.laws.lifts_stay.Goals as goal

pub returns : goal.returns
returns c = lifts_stay
