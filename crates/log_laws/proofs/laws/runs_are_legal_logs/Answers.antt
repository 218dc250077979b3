use Rattle.log_laws.proofs.LinesFound.{legal_or_too_long, runs_are_legal_logs}
use Rattle.log_laws.proofs.laws.runs_are_legal_logs.Goals as goal

pub returns-clause-short : goal.returns-clause-short
returns-clause-short c = runs_are_legal_logs

pub returns-clause-any : goal.returns-clause-any
returns-clause-any c = legal_or_too_long
