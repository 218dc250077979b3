use Rattle.std.proofs.Common.{◌≡◌}
use Rattle.vm_journal.specs.declared.entry.Kind.TheVariants as kind
use Rattle.vm_journal.specs.HasLine.{WhatHasLine}
use Rattle.vm_journal.specs.Line.{part_words}
use Rattle.entry_lines.proofs.Forms.{of_kind}
use Rattle.entry_lines.proofs.read.read_out_ok.Goals as goal

pub returns-in_err-f : goal.returns-in_err-f
returns-in_err-f c = rw c.from_residual.ensures (record {
  found = tt;
  none = λ w has is.
      of_kind (λ w. WhatHasLine c.args.procs c.args.names.now w → part_words c.args.names.now w ≡ c.args.words.now → ⊥) kind.OutOk
      (λ f k has is. c.in_err-f.ensures.none (f, k) has is)
      w has.0 has.1 is;
})
