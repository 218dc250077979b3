use Rattle.std.proofs.Common.{◌≡◌, sym}
use Rattle.vm_journal.specs.declared.entry.Kind.TheVariants as kind
use Rattle.vm_journal.specs.HasLine.{WhatHasLine}
use Rattle.vm_journal.specs.Line.{part_words}
use Rattle.entry_lines.proofs.Behind.{behind}
use Rattle.entry_lines.proofs.Forms.{of_kind}
use Rattle.entry_lines.proofs.read.read_collide.Goals as goal

pub returns-in_err-a : goal.returns-in_err-a
returns-in_err-a c = rw c.from_residual.ensures (record {
  found = tt;
  none = λ w has is.
      of_kind (λ w. WhatHasLine c.args.procs c.args.names.now w → part_words c.args.names.now w ≡ c.args.words.now → ⊥) kind.Collide
      (λ a f k has is. c.in_err-a.ensures.none a _ has.0 is)
      w has.0 has.1 is;
})

pub returns-in_err-f : goal.returns-in_err-f
returns-in_err-f c = rw c.from_residual-in_err-f.ensures (record {
  found = tt;
  none = λ w has is.
      of_kind (λ w. WhatHasLine c.args.procs c.args.names.now w → part_words c.args.names.now w ≡ c.args.words.now → ⊥) kind.Collide
      (λ a f k has is. c.in_err-f.ensures.none f _ has.1 (behind is c.in_ok-a.ensures.found.1))
      w has.0 has.1 is;
})

pub returns-in_err-k : goal.returns-in_err-k
returns-in_err-k c = rw c.from_residual-in_err-k.ensures (record {
  found = tt;
  none = λ w has is.
      of_kind (λ w. WhatHasLine c.args.procs c.args.names.now w → part_words c.args.names.now w ≡ c.args.words.now → ⊥) kind.Collide
      (λ a f k has is. c.in_err-k.ensures.none k _ has.2 (behind (behind is c.in_ok-a.ensures.found.1) c.in_ok-f.ensures.found.1))
      w has.0 has.1 is;
})

pub returns-in_err-end : goal.returns-in_err-end
returns-in_err-end c = rw c.from_residual-in_err-end.ensures (record {
  found = tt;
  none = λ w has is.
      of_kind (λ w. WhatHasLine c.args.procs c.args.names.now w → part_words c.args.names.now w ≡ c.args.words.now → ⊥) kind.Collide
      (λ a f k has is. c.in_err-end.ensures (sym (behind (behind (behind is c.in_ok-a.ensures.found.1) c.in_ok-f.ensures.found.1) c.in_ok-k.ensures.found.1)))
      w has.0 has.1 is;
})
