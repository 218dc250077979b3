use Rattle.pager_laws.proofs.RunsStay.{rundowns_end, runs_go_on, runs_stay}
use Rattle.pager_laws.proofs.bodies.runs_stay.Goals as goal

pub returns-clause-stay : goal.returns-clause-stay
returns-clause-stay c = runs_stay

pub returns-clause-on : goal.returns-clause-on
returns-clause-on c = runs_go_on

pub returns-clause-end : goal.returns-clause-end
returns-clause-end c = rundowns_end
