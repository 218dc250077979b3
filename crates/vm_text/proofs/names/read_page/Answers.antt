use Rattle.std.proofs.Common.{◌≡◌, ◌*◌, arith}
use Rattle.vm_types.specs.declared.limits.TheConstants.{PAGE_BYTES}
use Rattle.vm_types.specs.declared.names.Page.TheVariants.{Private, Shared}
use Rattle.vm_text.specs.Named.{IsNamedPage}
use Rattle.vm_text.specs.Names.{page_text}
use Rattle.vm_text.proofs.names.read_page.Goals as goal

pub returns-in_err-section : goal.returns-in_err-section
returns-in_err-section c = rw c.from_residual.ensures (record {
  found = tt;
  none = λ page has is.
      elim page as (λ page. IsNamedPage c.args.procs c.args.names.now page → page_text c.args.names.now page ≡ c.args.word.now → ⊥) [
        | Private p v ↦ λ has is. c.in_default.ensures.none (p, record { 0 = PAGE_BYTES * v }) (has.0, record { aligned = omega arith; small = omega (arith, has.1) }) is
        | Shared s i ↦ λ has is. c.in_err-section.ensures.none (s, i) has is
      ] has is;
})
