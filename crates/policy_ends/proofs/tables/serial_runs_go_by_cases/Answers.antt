use Rattle.policy_ends.proofs.FirstRows.{first_row, first_rows}
use Rattle.policy_ends.proofs.tables.serial_runs_go_by_cases.Goals as goal

pub returns-clause-moves : goal.returns-clause-moves
returns-clause-moves c = first_row

pub returns-clause-runs : goal.returns-clause-runs
returns-clause-runs c = first_rows
