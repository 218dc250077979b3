use Rattle.std.proofs.Common.{◌∙◌, ap, set}
use Rattle.page_lists.specs.Lists.{TwoLists}
use Rattle.page_lists.proofs.Moves.{AreLinked-written, cells-written, free-written, modified-written}
use Rattle.page_lists.proofs.TwoLists.{AreTwoLists-linked}
use Rattle.page_lists.proofs.lists.Lists.set_cells.Goals as goal

pub invariant_of-self : goal.invariant_of-self
invariant_of-self c =
    let below = rw (← c.self.view_is) at c.requires.below in
    let none = rw (← c.self.view_is) at c.requires.on_none in
    rw (c.put.ensures, c.put-2.ensures) (AreLinked-written _ _ _ _ _ c.self.invariant c.args.f below none c.args.c.0 c.args.c.1)

pub returns-clause-cells : goal.returns-clause-cells
returns-clause-cells c =
    let below = rw (← c.self.view_is) at c.requires.below in
    let none = rw (← c.self.view_is) at c.requires.on_none in
    rw (c.put.ensures, c.put-2.ensures) (cells-written _ _ _ _ _ c.self.invariant c.args.f below none c.args.c.0 c.args.c.1 ∙ ap (λ (lists : TwoLists). set lists.cells c.args.f c.args.c) c.self.view_is)

pub returns-clause-free : goal.returns-clause-free
returns-clause-free c =
    let below = rw (← c.self.view_is) at c.requires.below in
    let none = rw (← c.self.view_is) at c.requires.on_none in
    rw c.put.ensures (free-written _ _ _ _ _ c.self.invariant c.args.f below none c.args.c.0 c.args.c.1 ∙ ap (λ (lists : TwoLists). lists.free) c.self.view_is)

pub returns-clause-modified : goal.returns-clause-modified
returns-clause-modified c =
    let below = rw (← c.self.view_is) at c.requires.below in
    let none = rw (← c.self.view_is) at c.requires.on_none in
    rw c.put.ensures (modified-written _ _ _ _ _ c.self.invariant c.args.f below none c.args.c.0 c.args.c.1 ∙ ap (λ (lists : TwoLists). lists.modified) c.self.view_is)

pub returns-clause-valid : goal.returns-clause-valid
returns-clause-valid c = AreTwoLists-linked _ _ _ _ _ (invariant_of-self c)
