use Rattle.policy_tables.proofs.ByServe.{goes_by_cases}
use Rattle.policy_tables.proofs.laws.services_go_by_cases.Goals as goal

pub returns : goal.returns
returns c config past a p s = goes_by_cases config past a p s
