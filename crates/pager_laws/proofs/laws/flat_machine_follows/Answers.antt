use Rattle.pager_laws.proofs.FlatFollows.{follows}
use Rattle.pager_laws.proofs.laws.flat_machine_follows.Goals as goal

pub returns-clause-maps : goal.returns-clause-maps
returns-clause-maps c = λ config past formed run. (follows config past formed run).map

pub returns-clause-touched : goal.returns-clause-touched
returns-clause-touched c = λ config past formed run. (follows config past formed run).touched
