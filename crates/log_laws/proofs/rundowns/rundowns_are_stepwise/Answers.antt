use Rattle.log_laws.proofs.Stepwise.{next_step, stepwise}
use Rattle.log_laws.proofs.rundowns.rundowns_are_stepwise.Goals as goal

pub returns-clause-all : goal.returns-clause-all
returns-clause-all c = stepwise

pub returns-clause-next : goal.returns-clause-next
returns-clause-next c = next_step
