use Rattle.policy_ends.proofs.ControlStays.{rests_go_on}
use Rattle.policy_ends.proofs.MovesStay.{made_same, moves_same, moves_stay}
use Rattle.policy_ends.proofs.one_by_one.moves_stay.Goals as goal

pub returns-clause-same : goal.returns-clause-same
returns-clause-same c config task past at below = moves_same config past task at below

pub returns-clause-made : goal.returns-clause-made
returns-clause-made c config task past at some = made_same config past task at some

pub returns-clause-on : goal.returns-clause-on
returns-clause-on c config task past at may none between fits body all rested = rests_go_on config task past at may none between fits body all rested

pub returns-clause-stay : goal.returns-clause-stay
returns-clause-stay c = moves_stay
