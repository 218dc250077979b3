use Rattle.std.proofs.Common.{◌≡◌, ℕ, List, ◌∷◌, ◌∙◌, get_or, sym, ap, arith}
use Rattle.vm_types.specs.declared.names.BlockId.TheVariants as block
use Rattle.vm_text.specs.Named.{IsNamedBlock}
use Rattle.vm_text.specs.Names.{block_text, section_page_text, slot_text}
use Rattle.std.specs.Prelude.{decimal}
use Rattle.vm_text.proofs.names.read_block.Goals as goal

-- texts of blocks of two sorts differ in their first byte
first_byte : List ℕ → ℕ
first_byte text = get_or text 0 0

pub returns-in_err-section : goal.returns-in_err-section
unfolding first_byte
returns-in_err-section c = rw c.from_residual.ensures (record {
  found = tt;
  none = λ b has is.
      elim b as (λ b. IsNamedBlock c.args.procs c.args.names.now b → block_text c.args.names.now b ≡ c.args.word.now → ⊥) [
        | block.Section s i ↦ λ has is.
            let same : (83 ∷ 58 ∷ section_page_text c.args.names.now s.0 i) ≡ 83 ∷ 58 ∷ c.in-Some.rest.now = is ∙ c.in-Some.ensures in
            c.in_err-section.ensures.none (s, i) has (cc)
        | block.PageFile n ↦ λ has is. absurd (omega (arith, ap first_byte (is ∙ c.in-Some.ensures)))
        | block.Swap p n ↦ λ has is. absurd (omega (arith, ap first_byte (is ∙ c.in-Some.ensures)))
      ] has is;
})

pub returns-in_err-number : goal.returns-in_err-number
unfolding first_byte
returns-in_err-number c = rw c.from_residual-in_err-number.ensures (record {
  found = tt;
  none = λ b has is.
      elim b as (λ b. IsNamedBlock c.args.procs c.args.names.now b → block_text c.args.names.now b ≡ c.args.word.now → ⊥) [
        | block.Section s i ↦ λ has is. c.in_default.ensures _ (sym is)
        | block.PageFile n ↦ λ has is.
            let same : (80 ∷ 58 ∷ decimal n) ≡ 80 ∷ 58 ∷ c.in-Some-after.rest.now = is ∙ c.in-Some-after.ensures in
            c.in_err-number.ensures.none n has (cc)
        | block.Swap p n ↦ λ has is. absurd (omega (arith, ap first_byte (is ∙ c.in-Some-after.ensures)))
      ] has is;
})

pub returns-in_err-rest : goal.returns-in_err-rest
returns-in_err-rest c = rw c.from_residual-in_err-rest.ensures (record {
  found = tt;
  none = λ b has is.
      elim b as (λ b. IsNamedBlock c.args.procs c.args.names.now b → block_text c.args.names.now b ≡ c.args.word.now → ⊥) [
        | block.Section s i ↦ λ has is. c.in_default.ensures _ (sym is)
        | block.PageFile n ↦ λ has is. c.in_default-after.ensures _ (sym is)
        | block.Swap p n ↦ λ has is. c.in_err-rest.ensures _ (sym is)
      ] has is;
})

pub returns-in_err-process : goal.returns-in_err-process
returns-in_err-process c = rw c.from_residual-in_err-process.ensures (record {
  found = tt;
  none = λ b has is.
      elim b as (λ b. IsNamedBlock c.args.procs c.args.names.now b → block_text c.args.names.now b ≡ c.args.word.now → ⊥) [
        | block.Section s i ↦ λ has is. c.in_default.ensures _ (sym is)
        | block.PageFile n ↦ λ has is. c.in_default-after.ensures _ (sym is)
        | block.Swap p n ↦ λ has is.
            let same : (88 ∷ 58 ∷ slot_text p.0 n) ≡ 88 ∷ 58 ∷ c.in_ok-rest.rest.now = is ∙ c.in_ok-rest.ensures in
            c.in_err-process.ensures.none (p, n) has (cc)
      ] has is;
})
