use Rattle.trace_reader.proofs.LawsHold.{fault_stays}
use Rattle.trace_reader.proofs.laws.a_shown_fault_stays.Goals as goal

pub returns : goal.returns
returns c = fault_stays
