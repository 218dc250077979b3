use Rattle.std.proofs.Common.{◌&&◌, ◌∙◌, Bool, ap, not, sym}
use Rattle.pfn_database.specs.declared.row.Row.{Row}
use Rattle.pager_policy.specs.Swap.{is_still}
use Rattle.vm_swapper.proofs.SlotsSeen.{row_modify}
use Rattle.vm_swapper.proofs.slots.is_clean.Goals as goal

pub returns-then-row : goal.returns-then-row
returns-then-row g c =
    ap (λ (b : Bool). not b && is_still c.args.state.now.past (c.args.f).0) (sym (sym (ap (λ (z : Row). z.modify) c.frame-row.ensures ∙ row_modify c.args.state.now (c.args.f).0) ∙ c.if-row.true))

pub returns-else-row : goal.returns-else-row
returns-else-row g c =
    c.is_still.ensures
    ∙ ap (λ (b : Bool). not b && is_still c.args.state.now.past (c.args.f).0) (sym (sym (ap (λ (z : Row). z.modify) c.frame-row.ensures ∙ row_modify c.args.state.now (c.args.f).0) ∙ c.if-row.false))
