use Rattle.std.proofs.Common.{refl, arith}
use Rattle.trace_reader.proofs.Drafting.{next_draft, next_number}
use Rattle.trace_reader.proofs.read.Reader.take_line.Goals as goal

pub returns-in-Ok-clause-ok : goal.returns-in-Ok-clause-ok
returns-in-Ok-clause-ok c = record {
  taken = c.in-Ok.ensures.value;
  counted = refl;
  reading = record {
    seen = c.in-Ok.ensures.seen;
    draft = next_draft c.args.self.now.number c.args.self.now.draft.part c.accept.new.self.part c.args.line.now c.requires.draft c.in-Ok.ensures.value;
    few = omega (arith, next_number c.args.self.now.number c.args.self.now.draft.part c.accept.new.self.part c.args.line.now c.requires.draft c.in-Ok.ensures.value);
  };
}
