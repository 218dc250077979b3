use Rattle.trace_spelling.proofs.Whole.{spelling_is_read}
use Rattle.trace_spelling.proofs.laws.the_plain_spelling_is_read.Goals as goal

pub returns : goal.returns
returns c = spelling_is_read
