use Rattle.seat_laws.proofs.UnmetReferences.{shown_unmet}
use Rattle.seat_laws.proofs.laws.invalid_is_unmet.Goals as goal

pub returns : goal.returns
returns c = shown_unmet
