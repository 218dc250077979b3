use Rattle.std.proofs.Common.{◌≡◌, ◌∷◌, [], ◌∙◌, sym}
use Rattle.vm_text.specs.References.{why_word}
use Rattle.vm_text.proofs.OneToOne.{reference_same}
use Rattle.vm_journal.specs.declared.entry.Kind.TheVariants as kind
use Rattle.vm_journal.specs.HasLine.{WhatHasLine}
use Rattle.vm_journal.specs.Line.{part_words}
use Rattle.entry_lines.proofs.Forms.{of_kind}
use Rattle.entry_lines.proofs.read.read_denied.Goals as goal

pub returns-in_err-why : goal.returns-in_err-why
returns-in_err-why c = rw c.from_residual-in_err-why.ensures (record {
  found = tt;
  none = λ w has is.
      of_kind (λ w. WhatHasLine c.args.procs c.args.names.now w → part_words c.args.names.now w ≡ c.args.words.now → ⊥) kind.Denied
      (λ r why has is.
      let same = reference_same r c.in_ok-r.r (why_word why ∷ []) c.take_reference.new.words has c.in_ok-r.ensures.found.0 (is ∙ sym c.in_ok-r.ensures.found.1) in
      c.in_err-why.ensures.none why [] tt same.1)
      w has.0 has.1 is;
})
