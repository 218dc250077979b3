use Rattle.log_laws.proofs.Cuts.{cut_logs_are_at_fault}
use Rattle.log_laws.proofs.laws.cut_logs_are_at_fault.Goals as goal

pub returns : goal.returns
returns c = cut_logs_are_at_fault
