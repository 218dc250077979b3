use Rattle.std.proofs.Common.{◌≡◌}
use Rattle.vm_journal.specs.declared.entry.Kind.TheVariants as kind
use Rattle.vm_journal.specs.HasLine.{WhatHasLine}
use Rattle.vm_journal.specs.Line.{part_words}
use Rattle.entry_lines.proofs.Behind.{behind}
use Rattle.entry_lines.proofs.Forms.{of_kind}
use Rattle.entry_lines.proofs.read.read_in.Goals as goal

pub returns-in_err-f : goal.returns-in_err-f
returns-in_err-f c = rw c.from_residual.ensures (record {
  found = tt;
  none = λ w has is.
      of_kind (λ w. WhatHasLine c.args.procs c.args.names.now w → part_words c.args.names.now w ≡ c.args.words.now → ⊥) kind.In
      (λ f block role has is. c.in_err-f.ensures.none f _ has.0 is)
      w has.0 has.1 is;
})

pub returns-in_err-block : goal.returns-in_err-block
returns-in_err-block c = rw c.from_residual-in_err-block.ensures (record {
  found = tt;
  none = λ w has is.
      of_kind (λ w. WhatHasLine c.args.procs c.args.names.now w → part_words c.args.names.now w ≡ c.args.words.now → ⊥) kind.In
      (λ f block role has is. c.in_err-block.ensures.none block _ has.1 (behind is c.in_ok-f.ensures.found.1))
      w has.0 has.1 is;
})

pub returns-in_err-role : goal.returns-in_err-role
returns-in_err-role c = rw c.from_residual-in_err-role.ensures (record {
  found = tt;
  none = λ w has is.
      of_kind (λ w. WhatHasLine c.args.procs c.args.names.now w → part_words c.args.names.now w ≡ c.args.words.now → ⊥) kind.In
      (λ f block role has is. c.in_err-role.ensures.none role has.2 (behind (behind is c.in_ok-f.ensures.found.1) c.in_ok-block.ensures.found.1))
      w has.0 has.1 is;
})
