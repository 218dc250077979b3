use Rattle.std.proofs.Common.{◌≡◌, ◌++◌, ◌∙◌, ap, sym, refl, arith}
use Rattle.std.proofs.lemmas.Bool.{false≢true}
use Rattle.vm_types.specs.WellFormed.{IsWellFormedService}
use Rattle.vm_types.specs.declared.service.Service.TheVariants.{Create, Delete, Protect, Lock, Unlock, Purge, Adjust, Pin, Unpin}
use Rattle.vm_text.specs.Services.{service_words}
use Rattle.entry_lines.proofs.Behind.{behind, first, first_byte}
use Rattle.entry_lines.proofs.requests.take_service.Goals as goal

pub returns-in_err-at : goal.returns-in_err-at
returns-in_err-at c = rw c.from_residual-in_err-at.ensures (record {
  found = tt;
  none = λ s rest has e.
      elim s as (λ s. IsWellFormedService s → service_words s ++ rest ≡ c.args.words.now → ⊥) [
        | Create at pages prot ↦ λ has e. c.in_err-at.ensures.none (at, pages) _ has.0 (behind e (sym c.in_ok-name.ensures))
        | Delete at pages ↦ λ has e. c.in_err-at.ensures.none (at, pages) _ has (behind e (sym c.in_ok-name.ensures))
        | Protect at pages prot ↦ λ has e. c.in_err-at.ensures.none (at, pages) _ has.0 (behind e (sym c.in_ok-name.ensures))
        | Lock at pages ↦ λ has e. c.in_err-at.ensures.none (at, pages) _ has (behind e (sym c.in_ok-name.ensures))
        | Unlock at pages ↦ λ has e. c.in_err-at.ensures.none (at, pages) _ has (behind e (sym c.in_ok-name.ensures))
        | Purge at pages ↦ λ has e. c.in_err-at.ensures.none (at, pages) _ has (behind e (sym c.in_ok-name.ensures))
        | Pin at pages ↦ λ has e. c.in_err-at.ensures.none (at, pages) _ has (behind e (sym c.in_ok-name.ensures))
        | Unpin at pages ↦ λ has e. c.in_err-at.ensures.none (at, pages) _ has (behind e (sym c.in_ok-name.ensures))
        | Adjust limit ↦ λ has e. false≢true (c.if-is.ensures.1 (first e (sym c.in_ok-name.ensures)))
      ] has e;
})

pub returns-in_err-prot : goal.returns-in_err-prot
returns-in_err-prot c = rw c.from_residual-in_err-prot.ensures (record {
  found = tt;
  none = λ s rest has e.
      elim s as (λ s. IsWellFormedService s → service_words s ++ rest ≡ c.args.words.now → ⊥) [
        | Create at pages prot ↦ λ has e. c.in_err-prot.ensures.none prot _ has.1 (behind (behind (behind e (sym c.in_ok-name.ensures)) c.in_ok-at.ensures.found.1) refl)
        | Delete at pages ↦ λ has e. absurd (omega (arith, ap first_byte (first e (sym c.in_ok-name.ensures) ∙ sym (c.if-is-2.ensures.0 refl))))
        | Protect at pages prot ↦ λ has e. absurd (omega (arith, ap first_byte (first e (sym c.in_ok-name.ensures) ∙ sym (c.if-is-2.ensures.0 refl))))
        | Lock at pages ↦ λ has e. absurd (omega (arith, ap first_byte (first e (sym c.in_ok-name.ensures) ∙ sym (c.if-is-2.ensures.0 refl))))
        | Unlock at pages ↦ λ has e. absurd (omega (arith, ap first_byte (first e (sym c.in_ok-name.ensures) ∙ sym (c.if-is-2.ensures.0 refl))))
        | Purge at pages ↦ λ has e. absurd (omega (arith, ap first_byte (first e (sym c.in_ok-name.ensures) ∙ sym (c.if-is-2.ensures.0 refl))))
        | Pin at pages ↦ λ has e. absurd (omega (arith, ap first_byte (first e (sym c.in_ok-name.ensures) ∙ sym (c.if-is-2.ensures.0 refl))))
        | Unpin at pages ↦ λ has e. absurd (omega (arith, ap first_byte (first e (sym c.in_ok-name.ensures) ∙ sym (c.if-is-2.ensures.0 refl))))
        | Adjust limit ↦ λ has e. absurd (omega (arith, ap first_byte (first e (sym c.in_ok-name.ensures) ∙ sym (c.if-is-2.ensures.0 refl))))
      ] has e;
})

pub returns-in_err-prot-2 : goal.returns-in_err-prot-2
returns-in_err-prot-2 c = rw c.from_residual-in_err-prot-2.ensures (record {
  found = tt;
  none = λ s rest has e.
      elim s as (λ s. IsWellFormedService s → service_words s ++ rest ≡ c.args.words.now → ⊥) [
        | Create at pages prot ↦ λ has e. absurd (omega (arith, ap first_byte (first e (sym c.in_ok-name.ensures) ∙ sym (c.if-is-3.ensures.0 refl))))
        | Delete at pages ↦ λ has e. absurd (omega (arith, ap first_byte (first e (sym c.in_ok-name.ensures) ∙ sym (c.if-is-3.ensures.0 refl))))
        | Protect at pages prot ↦ λ has e. c.in_err-prot-2.ensures.none prot _ has.1 (behind (behind (behind e (sym c.in_ok-name.ensures)) c.in_ok-at.ensures.found.1) refl)
        | Lock at pages ↦ λ has e. absurd (omega (arith, ap first_byte (first e (sym c.in_ok-name.ensures) ∙ sym (c.if-is-3.ensures.0 refl))))
        | Unlock at pages ↦ λ has e. absurd (omega (arith, ap first_byte (first e (sym c.in_ok-name.ensures) ∙ sym (c.if-is-3.ensures.0 refl))))
        | Purge at pages ↦ λ has e. absurd (omega (arith, ap first_byte (first e (sym c.in_ok-name.ensures) ∙ sym (c.if-is-3.ensures.0 refl))))
        | Pin at pages ↦ λ has e. absurd (omega (arith, ap first_byte (first e (sym c.in_ok-name.ensures) ∙ sym (c.if-is-3.ensures.0 refl))))
        | Unpin at pages ↦ λ has e. absurd (omega (arith, ap first_byte (first e (sym c.in_ok-name.ensures) ∙ sym (c.if-is-3.ensures.0 refl))))
        | Adjust limit ↦ λ has e. absurd (omega (arith, ap first_byte (first e (sym c.in_ok-name.ensures) ∙ sym (c.if-is-3.ensures.0 refl))))
      ] has e;
})
