use Rattle.std.proofs.Common.{◌≡◌, ◌∙◌, ap, sym, refl, arith}
use Rattle.vm_journal.specs.declared.entry.Role.TheVariants.{Fault, Near, Come}
use Rattle.vm_journal.specs.HasLine.{RoleHasWords}
use Rattle.vm_journal.specs.Line.{role_words}
use Rattle.entry_lines.proofs.Behind.{behind, first, first_byte}
use Rattle.entry_lines.proofs.read.last_role.Goals as goal

pub returns-in_err-process : goal.returns-in_err-process
returns-in_err-process c = rw c.from_residual-in_err-process.ensures (record {
  found = tt;
  none = λ role has is.
      elim role as (λ role. RoleHasWords c.args.procs c.args.names.now role → role_words c.args.names.now role ≡ c.args.words.now → ⊥) [
        | Fault p a ↦ λ has is. c.in_err-process.ensures.none (p, a) has (behind is (sym c.in_ok-word.ensures))
        | Near page ↦ λ has is. absurd (omega (arith, ap first_byte (first is (sym c.in_ok-word.ensures) ∙ sym (c.if-is.ensures.0 refl))))
        | Come p a ↦ λ has is. absurd (omega (arith, ap first_byte (first is (sym c.in_ok-word.ensures) ∙ sym (c.if-is.ensures.0 refl))))
      ] has is;
})

pub returns-in_err-process-2 : goal.returns-in_err-process-2
returns-in_err-process-2 c = rw c.from_residual-in_err-process-2.ensures (record {
  found = tt;
  none = λ role has is.
      elim role as (λ role. RoleHasWords c.args.procs c.args.names.now role → role_words c.args.names.now role ≡ c.args.words.now → ⊥) [
        | Fault p a ↦ λ has is. absurd (omega (arith, ap first_byte (first is (sym c.in_ok-word.ensures) ∙ sym (c.if-is-3.ensures.0 refl))))
        | Near page ↦ λ has is. absurd (omega (arith, ap first_byte (first is (sym c.in_ok-word.ensures) ∙ sym (c.if-is-3.ensures.0 refl))))
        | Come p a ↦ λ has is. c.in_err-process-2.ensures.none (p, a) has (behind is (sym c.in_ok-word.ensures))
      ] has is;
})
