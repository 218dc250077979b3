use Rattle.log_check.proofs.FirstLines.{cut_first, whole_first}
use Rattle.log_check.proofs.expected.first_line.Goals as goal

pub returns-in-None : goal.returns-in-None
returns-in-None c = whole_first c.args.text.now c.in-None.ensures

pub returns-in-Some : goal.returns-in-Some
returns-in-Some c = cut_first c.args.text.now c.in-Some.line.now _ c.in-Some.ensures.0 c.in-Some.ensures.1
