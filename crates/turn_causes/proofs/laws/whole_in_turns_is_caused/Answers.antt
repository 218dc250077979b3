use Rattle.turn_causes.proofs.TurnsCaused.{whole_caused}
use Rattle.turn_causes.proofs.laws.whole_in_turns_is_caused.Goals as goal

pub returns : goal.returns
returns c = whole_caused
