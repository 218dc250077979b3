use Rattle.trace_reader.proofs.Drafting.{bounded}
use Rattle.trace_reader.proofs.HeadLines.{before_end}
use Rattle.trace_reader.proofs.head.is_unknown.Goals as goal

pub judge-requires-clause-bounded : goal.judge-requires-clause-bounded
judge-requires-clause-bounded c = bounded c.args.reader.now.draft.part c.requires.draft

pub returns-in_default : goal.returns-in_default
returns-in_default c = before_end _ _ _ c.in_default.not-Ended
