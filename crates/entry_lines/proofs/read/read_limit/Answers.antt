use Rattle.std.proofs.Common.{◌≡◌, sym}
use Rattle.vm_journal.specs.declared.entry.Kind.TheVariants as kind
use Rattle.vm_journal.specs.HasLine.{WhatHasLine}
use Rattle.vm_journal.specs.Line.{part_words}
use Rattle.entry_lines.proofs.Behind.{behind}
use Rattle.entry_lines.proofs.Forms.{of_kind}
use Rattle.entry_lines.proofs.read.read_limit.Goals as goal

pub returns-in_err-n : goal.returns-in_err-n
returns-in_err-n c = rw c.from_residual.ensures (record {
  found = tt;
  none = λ w has is.
      of_kind (λ w. WhatHasLine c.args.procs c.args.names.now w → part_words c.args.names.now w ≡ c.args.words.now → ⊥) kind.Limit
      (λ n faults has is. c.in_err-n.ensures.none n _ has.0 is)
      w has.0 has.1 is;
})

pub returns-in_err-faults : goal.returns-in_err-faults
returns-in_err-faults c = rw c.from_residual-in_err-faults.ensures (record {
  found = tt;
  none = λ w has is.
      of_kind (λ w. WhatHasLine c.args.procs c.args.names.now w → part_words c.args.names.now w ≡ c.args.words.now → ⊥) kind.Limit
      (λ n faults has is. c.in_err-faults.ensures.none faults _ has.1 (behind is c.in_ok-n.ensures.found.1))
      w has.0 has.1 is;
})

pub returns-in_err-end : goal.returns-in_err-end
returns-in_err-end c = rw c.from_residual-in_err-end.ensures (record {
  found = tt;
  none = λ w has is.
      of_kind (λ w. WhatHasLine c.args.procs c.args.names.now w → part_words c.args.names.now w ≡ c.args.words.now → ⊥) kind.Limit
      (λ n faults has is. c.in_err-end.ensures (sym (behind (behind is c.in_ok-n.ensures.found.1) c.in_ok-faults.ensures.found.1)))
      w has.0 has.1 is;
})
