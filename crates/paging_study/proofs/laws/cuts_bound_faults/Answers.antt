use Rattle.paging_study.proofs.Bound.{least_faults}
use Rattle.paging_study.proofs.laws.cuts_bound_faults.Goals as goal

pub returns : goal.returns
returns c = λ page cut places frames sets schedule. least_faults page cut places frames sets schedule
