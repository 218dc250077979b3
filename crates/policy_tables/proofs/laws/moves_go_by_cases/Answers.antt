use Rattle.policy_tables.proofs.ByMove.{goes_by_cases}
use Rattle.policy_tables.proofs.laws.moves_go_by_cases.Goals as goal

pub returns : goal.returns
returns c config past at reply of_process same = goes_by_cases config past reply of_process same at
