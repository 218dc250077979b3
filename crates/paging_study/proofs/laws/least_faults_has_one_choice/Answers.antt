use Rattle.paging_study.proofs.OneChoice.{has_one_choice}
use Rattle.paging_study.proofs.laws.least_faults_has_one_choice.Goals as goal

pub returns : goal.returns
returns c = has_one_choice
