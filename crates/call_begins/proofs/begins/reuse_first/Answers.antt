use Rattle.std.proofs.Common.{◌∙◌, [], Option, ap, sym}
use Rattle.pfn_database.specs.declared.row.Row.{Row}
use Rattle.vm_types.specs.declared.names.Page.{Page}
use Rattle.pager_policy.specs.Given.{reuse_first}
use Rattle.vm_state.specs.LiftsLand.{added_each}
use Rattle.call_begins.proofs.Heads.{head_within, may_reuse}
use Rattle.call_begins.proofs.Rows.{row_page}
use Rattle.call_begins.proofs.begins.reuse_first.Goals as goal

pub frame-row-requires-after_bounds : goal.frame-row-requires-after_bounds
frame-row-requires-after_bounds g c κs within = head_within c.args.state.now c.args.seat c.args.f c.requires.head c.run_law.ensures.formed c.run_law.ensures.run

pub reuse-requires-after_bounds : goal.reuse-requires-after_bounds
reuse-requires-after_bounds g c κs within =
    may_reuse c.args.state.now c.args.seat c.args.f c.requires.head c.in-Some.page
    (sym (ap (λ (z : Row). z.page) c.frame-row.ensures ∙ row_page c.args.state.now (c.args.f).0) ∙ c.in-Some.is) c.requires.may c.requires.paid

pub returns-in-Some : goal.returns-in-Some
returns-in-Some g c =
    c.reuse.ensures
    ∙ ap (λ (o : Option Page). added_each c.args.seat (reuse_first o (c.args.f).0 []) c.args.state.now) (sym (sym (ap (λ (z : Row). z.page) c.frame-row.ensures ∙ row_page c.args.state.now (c.args.f).0) ∙ c.in-Some.is))

pub returns-in-None : goal.returns-in-None
returns-in-None g c =
    ap (λ (o : Option Page). added_each c.args.seat (reuse_first o (c.args.f).0 []) c.args.state.now) (sym (sym (ap (λ (z : Row). z.page) c.frame-row.ensures ∙ row_page c.args.state.now (c.args.f).0) ∙ c.in-None.is))
