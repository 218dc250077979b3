use Rattle.std.proofs.Common.{◌≡◌, ◌%◌, ◌∷◌, ◌++◌, ◌∙◌, List, ℕ, ap, subst, sym}
use Rattle.std.proofs.lemmas.Bool.{false≢true}
use Rattle.vm_types.specs.WellFormed.{op_bytes}
use Rattle.vm_text.specs.Names.{address_text}
use Rattle.vm_text.specs.References.{bare, operand_words}
use Rattle.vm_text.proofs.Digits.{hex_injective}
use Rattle.vm_text.proofs.Ops.{bare_text, bare_bytes, bare_twice, op_same}
use Rattle.entry_lines.proofs.Behind.{behind, first}
use Rattle.entry_lines.proofs.requests.take_reference.Goals as goal

pub returns-in_err-mode : goal.returns-in_err-mode
returns-in_err-mode c = rw c.from_residual.ensures (record {
  found = tt;
  none = λ r rest has e.
      c.in_err-mode.ensures.none (r.mode, bare r.op) (address_text (r.addr).0 ∷ (operand_words r.op ++ rest)) (bare_twice r.op)
      (ap (λ (t : List ℕ). t ∷ address_text (r.addr).0 ∷ (operand_words r.op ++ rest)) (bare_text r.mode r.op) ∙ e);
})

pub returns-then-not-is_aligned : goal.returns-then-not-is_aligned
returns-then-not-is_aligned c = record {
  found = tt;
  none = λ r rest has e.
      let same : bare r.op ≡ c.in_ok-mode.shape = op_same r.mode r.op c.in_ok-mode.mode c.in_ok-mode.shape (first e c.in_ok-mode.ensures.found.1) ∙ c.in_ok-mode.ensures.found.0 in
      let bytes : op_bytes r.op ≡ op_bytes c.in_ok-mode.shape = sym (bare_bytes r.op) ∙ ap op_bytes same in
      let address : (r.addr).0 ≡ c.in_ok-addr.addr.0 =
      hex_injective 8 (r.addr).0 c.in_ok-addr.addr.0 has.address c.in_ok-addr.ensures.found.0 (first (behind e c.in_ok-mode.ensures.found.1) c.in_ok-addr.ensures.found.1) in
      false≢true (c.if-not-is_aligned.ensures.1 (subst (λ a. a % op_bytes c.in_ok-mode.shape ≡ 0) address (subst (λ n. (r.addr).0 % n ≡ 0) bytes has.aligned)));
}

pub returns-in_err-op : goal.returns-in_err-op
returns-in_err-op c = rw c.from_residual-in_err-op.ensures (record {
  found = tt;
  none = λ r rest has e.
      let same : bare r.op ≡ c.in_ok-mode.shape = op_same r.mode r.op c.in_ok-mode.mode c.in_ok-mode.shape (first e c.in_ok-mode.ensures.found.1) ∙ c.in_ok-mode.ensures.found.0 in
      c.in_err-op.ensures.none r.op rest (same, has.fits) (behind (behind e c.in_ok-mode.ensures.found.1) c.in_ok-addr.ensures.found.1);
})
