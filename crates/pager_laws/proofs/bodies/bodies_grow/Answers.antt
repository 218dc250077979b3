use Rattle.pager_laws.proofs.RunsStay.{formed_stays, order_stays}
use Rattle.pager_laws.proofs.bodies.bodies_grow.Goals as goal

pub returns-clause-formed : goal.returns-clause-formed
returns-clause-formed c = formed_stays

pub returns-clause-order : goal.returns-clause-order
returns-clause-order c = order_stays
