use Rattle.std.proofs.Common.{◌∙◌, sym, ap}
use Rattle.trace_lines.specs.Says.{said}
use Rattle.trace_reader.proofs.Drafting.{bounded, right_line}
use Rattle.trace_reader.proofs.draft.Draft.accept.Goals as goal

pub judge-requires-clause-bounded : goal.judge-requires-clause-bounded
judge-requires-clause-bounded c = bounded c.args.self.now.part c.requires.draft

pub store-requires-clause-right : goal.store-requires-clause-right
store-requires-clause-right c = (right_line c.args.number c.args.self.now.part c.args.line.now _ (sym (ap said (sym c.in_ok-line.was) ∙ c.judge.ensures))).0
