use Rattle.trace_words.proofs.Splitting.{cut_none, cut_found}
use Rattle.std.proofs.Common.{sym}
use Rattle.trace_words.proofs.split.cut.Goals as goal

pub returns-in-None : goal.returns-in-None
returns-in-None c = sym (cut_none c.args.byte c.args.text.now c.in-None.ensures)

pub returns-in-Some : goal.returns-in-Some
returns-in-Some c = sym (cut_found c.args.byte c.args.text.now c.in-Some.front.now c.in-Some.back.now c.in-Some.ensures.0 c.in-Some.ensures.1)
