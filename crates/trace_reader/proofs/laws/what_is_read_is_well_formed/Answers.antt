use Rattle.trace_reader.proofs.LawsHold.{read_is_well_formed}
use Rattle.trace_reader.proofs.laws.what_is_read_is_well_formed.Goals as goal

pub returns : goal.returns
returns c = read_is_well_formed
