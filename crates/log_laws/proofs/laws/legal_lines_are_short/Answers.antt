use Rattle.log_laws.proofs.ShortLines.{legal_lines_are_short}
use Rattle.log_laws.proofs.laws.legal_lines_are_short.Goals as goal

pub returns : goal.returns
returns c = legal_lines_are_short
