use Rattle.std.proofs.Common.{◌≡◌, sym}
use Rattle.vm_journal.specs.declared.entry.Kind.TheVariants as kind
use Rattle.vm_journal.specs.HasLine.{WhatHasLine}
use Rattle.vm_journal.specs.Line.{part_words}
use Rattle.entry_lines.proofs.Behind.{behind}
use Rattle.entry_lines.proofs.Forms.{of_kind}
use Rattle.entry_lines.proofs.read.read_evict.Goals as goal

pub returns-in_err-p : goal.returns-in_err-p
returns-in_err-p c = rw c.from_residual.ensures (record {
  found = tt;
  none = λ w has is.
      of_kind (λ w. WhatHasLine c.args.procs c.args.names.now w → part_words c.args.names.now w ≡ c.args.words.now → ⊥) kind.Evict
      (λ p a f why to has is. c.in_err-p.ensures.none p _ has.0.0 is)
      w has.0 has.1 is;
})

pub returns-in_err-a : goal.returns-in_err-a
returns-in_err-a c = rw c.from_residual-in_err-a.ensures (record {
  found = tt;
  none = λ w has is.
      of_kind (λ w. WhatHasLine c.args.procs c.args.names.now w → part_words c.args.names.now w ≡ c.args.words.now → ⊥) kind.Evict
      (λ p a f why to has is. c.in_err-a.ensures.none a _ has.0.1 (behind is c.in_ok-p.ensures.found.1))
      w has.0 has.1 is;
})

pub returns-in_err-f : goal.returns-in_err-f
returns-in_err-f c = rw c.from_residual-in_err-f.ensures (record {
  found = tt;
  none = λ w has is.
      of_kind (λ w. WhatHasLine c.args.procs c.args.names.now w → part_words c.args.names.now w ≡ c.args.words.now → ⊥) kind.Evict
      (λ p a f why to has is. c.in_err-f.ensures.none f _ has.1 (behind (behind is c.in_ok-p.ensures.found.1) c.in_ok-a.ensures.found.1))
      w has.0 has.1 is;
})

pub returns-in_err-why : goal.returns-in_err-why
returns-in_err-why c = rw c.from_residual-in_err-why.ensures (record {
  found = tt;
  none = λ w has is.
      of_kind (λ w. WhatHasLine c.args.procs c.args.names.now w → part_words c.args.names.now w ≡ c.args.words.now → ⊥) kind.Evict
      (λ p a f why to has is. c.in_err-why.ensures.none why _ tt (behind (behind (behind is c.in_ok-p.ensures.found.1) c.in_ok-a.ensures.found.1) c.in_ok-f.ensures.found.1))
      w has.0 has.1 is;
})

pub returns-in_err-to : goal.returns-in_err-to
returns-in_err-to c = rw c.from_residual-in_err-to.ensures (record {
  found = tt;
  none = λ w has is.
      of_kind (λ w. WhatHasLine c.args.procs c.args.names.now w → part_words c.args.names.now w ≡ c.args.words.now → ⊥) kind.Evict
      (λ p a f why to has is. c.in_err-to.ensures.none to _ tt (behind (behind (behind (behind is c.in_ok-p.ensures.found.1) c.in_ok-a.ensures.found.1) c.in_ok-f.ensures.found.1) c.in_ok-why.ensures.found.1))
      w has.0 has.1 is;
})

pub returns-in_err-end : goal.returns-in_err-end
returns-in_err-end c = rw c.from_residual-in_err-end.ensures (record {
  found = tt;
  none = λ w has is.
      of_kind (λ w. WhatHasLine c.args.procs c.args.names.now w → part_words c.args.names.now w ≡ c.args.words.now → ⊥) kind.Evict
      (λ p a f why to has is. c.in_err-end.ensures (sym (behind (behind (behind (behind (behind is c.in_ok-p.ensures.found.1) c.in_ok-a.ensures.found.1) c.in_ok-f.ensures.found.1) c.in_ok-why.ensures.found.1) c.in_ok-to.ensures.found.1)))
      w has.0 has.1 is;
})
