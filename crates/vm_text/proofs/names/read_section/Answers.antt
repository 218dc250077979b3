use Rattle.std.proofs.Common.{◌≢◌, ℕ, ◌+◌, ◌<◌, ◌∙◌, sym, ap, refl, arith, below_more}
use Rattle.std.proofs.lemmas.Bool.{false≢true}
use Rattle.vm_text.specs.Names.{section_name}
use Rattle.vm_text.proofs.Cutting.{name_at}
use Rattle.vm_text.proofs.names.read_section.Goals as goal

pub returns-then-is : goal.returns-then-is
returns-then-is c =
    let name = name_at c.args.names.now c.loop-section.section-index c.section-item.result (omega arith) c.section-item.is in
    let number = c.loop-section.invariant.number in
    record {
      found = (record { there = omega arith; small = omega arith }, ap (section_name c.args.names.now) number ∙ (name ∙ (sym c.items.ensures ∙ c.if-is.ensures.0 refl)));
      none = tt;
    }

pub returns-in_err-number : goal.returns-in_err-number
returns-in_err-number c = rw c.from_residual.ensures (record {
  found = tt;
  none = λ s has is.
      let name = name_at c.args.names.now c.loop-section.section-index c.section-item.result (omega arith) c.section-item.is in
      let here : section_name c.args.names.now c.loop-section.section-index ≢ c.args.word.now = λ e. false≢true (c.if-is.ensures.1 (c.items.ensures ∙ (sym name ∙ e))) in
      let all : (k : ℕ) → k < c.loop-section.section-index + 1 → section_name c.args.names.now k ≢ c.args.word.now = below_more _ _ c.loop-section.invariant.others here in
      let small = has.small in
      let number = c.loop-section.invariant.number in
      let over = c.in_err-number.ensures in
      all s.0 (omega arith) is;
})

pub loop-section-preserved : goal.loop-section-preserved
loop-section-preserved c =
    let name = name_at c.args.names.now c.loop-section.section-index c.section-item.result (omega arith) c.section-item.is in
    let here : section_name c.args.names.now c.loop-section.section-index ≢ c.args.word.now = λ e. false≢true (c.if-is.ensures.1 (c.items.ensures ∙ (sym name ∙ e))) in
    record {
      number = omega (arith, c.in_ok-number.ensures);
      small = omega (arith, c.in_ok-number.ensures);
      others = below_more _ _ c.loop-section.invariant.others here;
    }
