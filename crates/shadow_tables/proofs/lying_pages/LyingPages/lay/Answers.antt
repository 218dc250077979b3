use Rattle.shadow_tables.proofs.Swapped.{said_told}
use Rattle.shadow_tables.proofs.lying_pages.LyingPages.lay.Goals as goal

pub invariant_of-self-2 : goal.invariant_of-self-2
invariant_of-self-2 c =
    said_told _ _ _ _ _ _ c.self.invariant c.list.ensures.within c.list.ensures.others c.args.page c.args.block _ c.is_swap-swapped.ensures c.in_ok-list.ensures.listed c.if-not-set.ensures
