use Rattle.std.proofs.Common.{◌≡◌, sym, ap, ◌∙◌, subst, List, [], ◌∷◌, ℕ, Ok}
use Rattle.vm_types.specs.WellFormed.{width_bytes}
use Rattle.vm_types.specs.declared.config.ProcSpec.{ProcSpec}
use Rattle.vm_types.specs.declared.config.Task.{Task}
use Rattle.trace_lines.specs.Lookups.{process, aligned}
use Rattle.trace_lines.specs.Plain.{IsFirstRequest}
use Rattle.trace_lines.proofs.PlainForm.{plain_first}
use Rattle.trace_lines.proofs.first_line.plain_request.Goals as goal

pub returns-in-Some : goal.returns-in-Some
returns-in-Some c =
    subst (λ (task : Task). IsFirstRequest c.args.number c.args.part.now c.args.text.now task c.in-Some.rest.now) (sym c.asked.ensures)
    (plain_first c.args.number c.args.part.now c.args.text.now c.in_ok-x.x c.in_ok-x.op c.in_ok-x.word.now c.in_ok-x.behind.now c.in-Some.what c.in-Some.rest.now c.in-Ok.p c.in-Ok-aligned.at
    (sym c.takes_request.ensures ∙ c.if-not-takes_request.false)
    c.in_ok-x.ensures
    (subst (λ (procs : List ProcSpec). process procs (c.in_ok-x.x ∷ []) ≡ Ok c.in-Ok.p) c.items.ensures (sym c.in-Ok.ensures))
    (ap (λ (n : ℕ). aligned n c.in_ok-x.word.now) (sym (c.bytes_of.ensures.value ∙ ap width_bytes c.width_of.ensures)) ∙ sym c.in-Ok-aligned.ensures)
    c.in-Some.ensures)

pub returns : goal.returns
returns c =
    subst (λ (task : Task). IsFirstRequest c.args.number c.args.part.now c.args.text.now task c.in_ok-what.rest.now) (sym c.asked-2.ensures)
    (plain_first c.args.number c.args.part.now c.args.text.now c.in_ok-x.x c.in_ok-x.op c.in_ok-x.word.now c.in_ok-x.behind.now c.in_ok-what.what c.in_ok-what.rest.now c.in-Ok.p c.in-Ok-aligned.at
    (sym c.takes_request.ensures ∙ c.if-not-takes_request.false)
    c.in_ok-x.ensures
    (subst (λ (procs : List ProcSpec). process procs (c.in_ok-x.x ∷ []) ≡ Ok c.in-Ok.p) c.items.ensures (sym c.in-Ok.ensures))
    (ap (λ (n : ℕ). aligned n c.in_ok-x.word.now) (sym (c.bytes_of.ensures.value ∙ ap width_bytes c.width_of.ensures)) ∙ sym c.in-Ok-aligned.ensures)
    c.in_ok-what.ensures)
