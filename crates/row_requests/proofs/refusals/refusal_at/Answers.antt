use Rattle.std.proofs.Common.{Bool, Some, None, not, if◌then◌else◌, ap, ◌∙◌}
use Rattle.vm_types.specs.Access.{is_allowed}
use Rattle.vm_types.specs.declared.reply.Why.TheVariants as why
use Rattle.pager_model.specs.Flat.{is_change}
use Rattle.row_requests.proofs.refusals.refusal_at.Goals as goal

pub returns : goal.returns
returns c = λ stored.
    c.refusal_by.ensures
    ∙ ap (λ (x : Bool). if not x then Some why.Protected else (if c.is_full_at.result then Some why.PageFileFull else None)) c.is_allowed.ensures
    ∙ ap (λ (y : Bool). if not (is_allowed c.args.behind.prot c.args.r.mode (is_change c.args.r.op)) then Some why.Protected else (if y then Some why.PageFileFull else None)) (c.is_full_at.ensures stored)
