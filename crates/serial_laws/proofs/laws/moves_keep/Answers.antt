use Rattle.serial_laws.proofs.Kept.{carriers_between, moves_between, moves_fit}
use Rattle.serial_laws.proofs.laws.moves_keep.Goals as goal

pub returns-clause-control : goal.returns-clause-control
returns-clause-control c = moves_fit

pub returns-clause-between : goal.returns-clause-between
returns-clause-between c = moves_between

pub returns-clause-landed : goal.returns-clause-landed
returns-clause-landed c = carriers_between
