use Rattle.log_laws.proofs.RunsRead.{legal_logs_are_runs}
use Rattle.log_laws.proofs.Verdicts.{legal_logs_are_short}
use Rattle.log_laws.proofs.laws.legal_logs_are_runs.Goals as goal

pub returns-clause-runs : goal.returns-clause-runs
returns-clause-runs c = legal_logs_are_runs

pub returns-clause-short : goal.returns-clause-short
returns-clause-short c = legal_logs_are_short
