use Rattle.pager_laws.proofs.FlightsOpen.{open_exactly}
use Rattle.pager_rules.proofs.Quiet.{starts_once}
use Rattle.pager_laws.proofs.laws.flights_are_open.Goals as goal

pub returns-clause-exactly : goal.returns-clause-exactly
returns-clause-exactly c = open_exactly

pub returns-clause-once : goal.returns-clause-once
returns-clause-once c = starts_once
