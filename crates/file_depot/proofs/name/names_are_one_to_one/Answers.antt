use Rattle.file_depot.proofs.Names.{one_to_one}
use Rattle.file_depot.proofs.name.names_are_one_to_one.Goals as goal

pub returns : goal.returns
returns c = one_to_one
