use Rattle.std.proofs.Common.{◌≡◌, sym}
use Rattle.vm_journal.specs.declared.entry.Kind.TheVariants as kind
use Rattle.vm_journal.specs.HasLine.{WhatHasLine}
use Rattle.vm_journal.specs.Line.{part_words}
use Rattle.entry_lines.proofs.Behind.{behind}
use Rattle.entry_lines.proofs.Forms.{of_kind}
use Rattle.entry_lines.proofs.read.read_turn.Goals as goal

pub returns-in_err-p : goal.returns-in_err-p
returns-in_err-p c = rw c.from_residual.ensures (record {
  found = tt;
  none = λ w has is.
      of_kind (λ w. WhatHasLine c.args.procs c.args.names.now w → part_words c.args.names.now w ≡ c.args.words.now → ⊥) kind.Turn
      (λ p status has is. c.in_err-p.ensures.none p _ has is)
      w has.0 has.1 is;
})

pub returns-in_err-status : goal.returns-in_err-status
returns-in_err-status c = rw c.from_residual-in_err-status.ensures (record {
  found = tt;
  none = λ w has is.
      of_kind (λ w. WhatHasLine c.args.procs c.args.names.now w → part_words c.args.names.now w ≡ c.args.words.now → ⊥) kind.Turn
      (λ p status has is. c.in_err-status.ensures.none status _ tt (behind is c.in_ok-p.ensures.found.1))
      w has.0 has.1 is;
})

pub returns-in_err-end : goal.returns-in_err-end
returns-in_err-end c = rw c.from_residual-in_err-end.ensures (record {
  found = tt;
  none = λ w has is.
      of_kind (λ w. WhatHasLine c.args.procs c.args.names.now w → part_words c.args.names.now w ≡ c.args.words.now → ⊥) kind.Turn
      (λ p status has is. c.in_err-end.ensures (sym (behind (behind is c.in_ok-p.ensures.found.1) c.in_ok-status.ensures.found.1)))
      w has.0 has.1 is;
})
