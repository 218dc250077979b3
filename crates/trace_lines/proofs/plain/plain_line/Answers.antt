use Rattle.std.proofs.Common.{◌≡◌, sym, ap, ◌∙◌, arith, subst, List, [], ◌∷◌, ℕ, Ok}
use Rattle.vm_types.specs.WellFormed.{width_bytes}
use Rattle.vm_types.specs.declared.config.ProcSpec.{ProcSpec}
use Rattle.trace_lines.specs.Lookups.{process, aligned}
use Rattle.trace_lines.specs.Plain.{IsPlainFront}
use Rattle.trace_lines.proofs.PlainForm.{plain_judged}
use Rattle.trace_lines.proofs.plain.plain_line.Goals as goal

pub returns : goal.returns
returns c =
    plain_judged c.args.number c.args.part.now c.args.line.now c.in_ok-x.x c.in_ok-x.op c.in_ok-x.word.now c.in_ok-x.behind.now c.in_ok-what.what c.in-Ok.p c.in-Ok-aligned.at (omega arith)
    (sym c.takes_request.ensures ∙ c.if-not-takes_request.false)
    (subst (λ (text : List ℕ). IsPlainFront text c.in_ok-x.x c.in_ok-x.op c.in_ok-x.word.now c.in_ok-x.behind.now) c.content.ensures c.in_ok-x.ensures)
    (subst (λ (procs : List ProcSpec). process procs (c.in_ok-x.x ∷ []) ≡ Ok c.in-Ok.p) c.items.ensures (sym c.in-Ok.ensures))
    (ap (λ (n : ℕ). aligned n c.in_ok-x.word.now) (sym (c.bytes_of.ensures.value ∙ ap width_bytes c.width_of.ensures)) ∙ sym c.in-Ok-aligned.ensures)
    c.in_ok-what.ensures
