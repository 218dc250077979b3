use Rattle.page_lists.proofs.TwoLists.{AreTwoLists-linked}
use Rattle.page_lists.proofs.lists.Lists.on.Goals as goal

pub returns-clause-valid : goal.returns-clause-valid
returns-clause-valid c = rw (← c.self.view_is) (AreTwoLists-linked _ _ _ _ _ c.self.invariant)
