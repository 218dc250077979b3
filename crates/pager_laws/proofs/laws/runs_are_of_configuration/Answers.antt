use Rattle.pager_laws.proofs.FlightsBegun.{flight_blocks}
use Rattle.pager_laws.proofs.OfConfigKept.{run_right}
use Rattle.pager_laws.proofs.laws.runs_are_of_configuration.Goals as goal

pub returns-clause-state : goal.returns-clause-state
returns-clause-state c = run_right

pub returns-clause-flights : goal.returns-clause-flights
returns-clause-flights c = flight_blocks
