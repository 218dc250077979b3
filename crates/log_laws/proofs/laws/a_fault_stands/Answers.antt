use Rattle.log_laws.proofs.Verdicts.{faults_are_no_runs, faults_stand}
use Rattle.log_laws.proofs.laws.a_fault_stands.Goals as goal

pub returns-clause-stands : goal.returns-clause-stands
returns-clause-stands c = faults_stand

pub returns-clause-runs : goal.returns-clause-runs
returns-clause-runs c = faults_are_no_runs
