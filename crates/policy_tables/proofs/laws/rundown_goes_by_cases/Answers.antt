use Rattle.policy_tables.proofs.ByRundown.{goes_by_cases}
use Rattle.policy_tables.proofs.laws.rundown_goes_by_cases.Goals as goal

pub returns : goal.returns
returns c config past a at = goes_by_cases config past a at
