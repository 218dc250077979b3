use Rattle.turn_causes.proofs.TurnsCaused.{turn_caused}
use Rattle.turn_causes.proofs.laws.turns_are_caused.Goals as goal

pub returns : goal.returns
returns c = turn_caused
