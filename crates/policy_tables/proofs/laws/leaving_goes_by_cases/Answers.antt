use Rattle.policy_tables.proofs.ByLeave.{goes_by_cases}
use Rattle.policy_tables.proofs.laws.leaving_goes_by_cases.Goals as goal

pub returns : goal.returns
returns c config past a p = goes_by_cases config past a p
