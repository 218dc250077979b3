use Rattle.std.proofs.Common.{◌∙◌, Option, ap, sym}
use Rattle.vm_types.specs.declared.names.BlockId.{BlockId}
use Rattle.vm_types.specs.declared.names.BlockId.TheVariants as block
use Rattle.vm_types.specs.declared.names.Page.{Page}
use Rattle.pager_model.specs.Lying.{lies_in}
use Rattle.pager_model.specs.Maps.{is_private}
use Rattle.state_pages.specs.declared.found.Backing.{Backing}
use Rattle.vm_swapper.proofs.SlotsSeen.{saved_if, saved_not}
use Rattle.vm_swapper.proofs.slots.lies_saved.Goals as goal

pub returns-then-lies_in : goal.returns-then-lies_in
returns-then-lies_in g c =
    saved_if _ _ _ c.is_clean.result (ap (λ (z : Page). is_private z) c.in-Private.is)
    (ap (λ (o : Option BlockId). lies_in o (block.Swap c.args.p c.args.n)) (sym (ap (λ (z : Backing). z.lies) c.backing-backing.ensures)) ∙ (sym c.lies_in.ensures ∙ c.if-lies_in.true)) c.is_clean.ensures

pub returns-else-lies_in : goal.returns-else-lies_in
returns-else-lies_in g c =
    saved_not _ _ _ (ap (λ (z : Page). is_private z) c.in-Private.is)
    (ap (λ (o : Option BlockId). lies_in o (block.Swap c.args.p c.args.n)) (sym (ap (λ (z : Backing). z.lies) c.backing-backing.ensures)) ∙ (sym c.lies_in.ensures ∙ c.if-lies_in.false))
