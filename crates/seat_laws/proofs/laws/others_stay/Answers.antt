use Rattle.seat_laws.proofs.OtherSeats.{carriers_stay, carryings_stay}
use Rattle.seat_laws.proofs.laws.others_stay.Goals as goal

pub returns : goal.returns
returns c = λ p q apart config ws past run. (carriers_stay p q apart config ws past run, carryings_stay p q apart ws past)
