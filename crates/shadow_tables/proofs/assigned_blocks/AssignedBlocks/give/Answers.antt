use Rattle.shadow_tables.proofs.Entries.{given_told}
use Rattle.shadow_tables.proofs.assigned_blocks.AssignedBlocks.give.Goals as goal

pub invariant_of-self-2 : goal.invariant_of-self-2
invariant_of-self-2 c =
    given_told _ _ _ _ _ _ _ c.self.invariant c.self.view_is c.deref.ensures.value c.args.page c.args.n _ _ c.in_ok-owners.ensures.within
    _ c.requires c.in_ok-owners.ensures.more c.in_ok-len.ensures c.if-not-set.ensures c.then-self-inside.ensures
