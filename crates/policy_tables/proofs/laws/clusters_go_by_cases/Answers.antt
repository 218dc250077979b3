use Rattle.policy_tables.proofs.ByBegin.{goes_by_cases}
use Rattle.policy_tables.proofs.laws.clusters_go_by_cases.Goals as goal

pub returns : goal.returns
returns c config a reason = goes_by_cases config a reason
