use Rattle.entry_lines.proofs.OneToOne.{line_same}
use Rattle.entry_lines.proofs.entry_read.lines_are_one_to_one.Goals as goal

pub returns : goal.returns
returns c = line_same
