use Rattle.std.proofs.Common.{rules}
use Rattle.check_command.proofs.Verdicts.{pending_few}
use Rattle.check_command.proofs.judging.let_go.Goals as goal

pub returns-clause-few : goal.returns-clause-few
returns-clause-few g c = pending_few c.args.lines.buffer c.args.lines.next c.args.lines.filled (search rules)
