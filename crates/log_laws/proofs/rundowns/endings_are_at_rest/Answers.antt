use Rattle.log_laws.proofs.Stepwise.{ending, no_move_rests}
use Rattle.log_laws.proofs.rundowns.endings_are_at_rest.Goals as goal

pub returns-clause-ending : goal.returns-clause-ending
returns-clause-ending c = ending

pub returns-clause-plan : goal.returns-clause-plan
returns-clause-plan c = no_move_rests
