use Rattle.policy_tables.proofs.ByAdvance.{goes_by_cases}
use Rattle.policy_tables.proofs.laws.references_go_by_cases.Goals as goal

pub returns : goal.returns
returns c config past a p r reply process same = goes_by_cases config past a p r reply process same
