use Rattle.pager_laws.proofs.RunLines.{run_lines}
use Rattle.pager_laws.proofs.lines.runs_have_lines.Goals as goal

pub returns : goal.returns
returns c = run_lines
