use Rattle.page_lists.proofs.TwoLists.{AreTwoLists-linked}
use Rattle.page_lists.proofs.lists.Lists.head.Goals as goal

pub returns-in-Free-clause-valid : goal.returns-in-Free-clause-valid
returns-in-Free-clause-valid c = rw (← c.self.view_is) (AreTwoLists-linked _ _ _ _ _ c.self.invariant)

pub returns-in-Modified-clause-valid : goal.returns-in-Modified-clause-valid
returns-in-Modified-clause-valid c = rw (← c.self.view_is) (AreTwoLists-linked _ _ _ _ _ c.self.invariant)
