use Rattle.std.proofs.Common.{◌&&◌, Bool, not, ap, ◌∙◌}
use Rattle.vm_types.specs.declared.names.BlockId.TheVariants as block
use Rattle.pager_model.specs.Lying.{lies_in}
use Rattle.pager_model.specs.Maps.{is_private}
use Rattle.pager_policy.specs.Swap.{is_still}
use Rattle.vm_state.specs.History.{pager}
use Rattle.vm_swapper.proofs.SlotsSeen.{pinned_first}
use Rattle.vm_swapper.proofs.slots.is_saved.Goals as goal

pub returns : goal.returns
returns g c =
    c.both.ensures
    ∙ (ap (λ (b : Bool). not (c.args.x).pinned && b) c.lies_saved.ensures
    ∙ pinned_first (is_private (c.args.x).page) (not (c.args.x).pinned)
    (lies_in ((pager c.args.state.now).lies (c.args.x).page) (block.Swap c.args.p c.args.n) && (not ((pager c.args.state.now).modify ((c.args.x).frame).0) && is_still c.args.state.now.past ((c.args.x).frame).0)))
