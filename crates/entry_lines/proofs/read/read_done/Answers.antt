use Rattle.std.proofs.Common.{◌≡◌, [], ◌∙◌, ap, sym, subst, append-nil}
use Rattle.vm_types.specs.declared.reference.Ref.{Ref}
use Rattle.vm_text.specs.References.{IsReplyTo, reply_words}
use Rattle.vm_text.proofs.OneToOne.{reference_same}
use Rattle.vm_journal.specs.declared.entry.Kind.TheVariants as kind
use Rattle.vm_journal.specs.HasLine.{WhatHasLine}
use Rattle.vm_journal.specs.Line.{part_words}
use Rattle.entry_lines.proofs.Forms.{of_kind}
use Rattle.entry_lines.proofs.read.read_done.Goals as goal

pub returns-in_err-reply : goal.returns-in_err-reply
returns-in_err-reply c = rw c.from_residual-in_err-reply.ensures (record {
  found = tt;
  none = λ w has is.
      of_kind (λ w. WhatHasLine c.args.procs c.args.names.now w → part_words c.args.names.now w ≡ c.args.words.now → ⊥) kind.Done
      (λ r reply has is.
      let same = reference_same r c.in_ok-r.r (reply_words r.op reply) c.take_reference.new.words has.0 c.in_ok-r.ensures.found.0 (is ∙ sym c.in_ok-r.ensures.found.1) in
      let behind : reply_words c.in_ok-r.r.op reply ≡ c.take_reference.new.words = ap (λ (x : Ref). reply_words x.op reply) (sym same.0) ∙ same.1 in
      c.in_err-reply.ensures.none reply [] (subst (λ (x : Ref). IsReplyTo x.op reply) same.0 has.1) (append-nil (reply_words c.in_ok-r.r.op reply) ∙ behind))
      w has.0 has.1 is;
})
