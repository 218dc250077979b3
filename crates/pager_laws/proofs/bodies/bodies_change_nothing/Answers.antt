use Rattle.std.proofs.Common.{refl}
use Rattle.pager_laws.proofs.RunsStay.{bytes_stay}
use Rattle.pager_laws.proofs.bodies.bodies_change_nothing.Goals as goal

pub returns-clause-pager : goal.returns-clause-pager
returns-clause-pager c config body past = refl

pub returns-clause-flat : goal.returns-clause-flat
returns-clause-flat c config body past = refl

pub returns-clause-right : goal.returns-clause-right
returns-clause-right c config body past right = right

pub returns-clause-bytes : goal.returns-clause-bytes
returns-clause-bytes c = bytes_stay
