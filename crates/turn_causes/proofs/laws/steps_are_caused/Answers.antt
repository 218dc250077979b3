use Rattle.turn_causes.proofs.StepsCaused.{step_caused}
use Rattle.turn_causes.proofs.laws.steps_are_caused.Goals as goal

pub returns : goal.returns
returns c = step_caused
