use Rattle.log_laws.proofs.Judged.{none_unjudged}
use Rattle.log_laws.proofs.Verdicts.{one_verdict}
use Rattle.log_laws.proofs.laws.one_verdict.Goals as goal

pub returns-clause-one : goal.returns-clause-one
returns-clause-one c = one_verdict

pub returns-clause-some : goal.returns-clause-some
returns-clause-some c = none_unjudged
