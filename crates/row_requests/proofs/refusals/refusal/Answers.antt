use Rattle.std.proofs.Common.{◌/◌, sym, ap, ◌∙◌}
use Rattle.vm_types.specs.declared.limits.TheConstants.{PAGE_BYTES}
use Rattle.pager_model.specs.Flat.{FlatState, refusal_at}
use Rattle.shadow_pager.specs.Shown.{shown}
use Rattle.row_requests.proofs.refusals.refusal.Goals as goal

pub refusal_at-requires-clause-code : goal.refusal_at-requires-clause-code
refusal_at-requires-clause-code c = (c.requires c.args.p.0 (c.args.r.addr.0 / PAGE_BYTES) c.in-Some.behind (sym c.mapping.ensures ∙ c.in-Some.is)).code.small

pub returns-in-Some : goal.returns-in-Some
returns-in-Some c =
    let a = (shown c.args.pager.now).pager in
    λ stored.
    let flat : FlatState = record { map = a.map; touched = a.touched; stored = stored } in
    c.refusal_at.ensures stored ∙ ap (refusal_at c.args.config.now flat c.args.p.0 c.args.r) (sym c.in-Some.is ∙ c.mapping.ensures)

pub returns-in-None : goal.returns-in-None
returns-in-None c =
    let a = (shown c.args.pager.now).pager in
    λ stored.
    let flat : FlatState = record { map = a.map; touched = a.touched; stored = stored } in
    ap (refusal_at c.args.config.now flat c.args.p.0 c.args.r) (sym c.in-None.is ∙ c.mapping.ensures)
