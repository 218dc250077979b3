use Rattle.std.proofs.Common.{◌∙◌, sym, ap}
use Rattle.page_lists.specs.Lists.{TwoLists, cells_of}
use Rattle.page_lists.proofs.Moves.{lent-cells}
use Rattle.page_lists.proofs.TwoLists.{AreTwoLists-linked}
use Rattle.page_lists.proofs.lists.Lists.cells.Goals as goal

pub returns-clause-cells : goal.returns-clause-cells
returns-clause-cells c =
    let below = rw (← c.self.view_is) at c.requires.below in
    let none = rw (← c.self.view_is) at c.requires.on_none in
    rw (c.cell_at.ensures, c.cell_at-2.ensures) (sym (lent-cells _ _ _ _ _ c.self.invariant c.args.f below none) ∙ ap (λ (lists : TwoLists). cells_of lists c.args.f) c.self.view_is)

pub returns-clause-valid : goal.returns-clause-valid
returns-clause-valid c = rw (← c.self.view_is) (AreTwoLists-linked _ _ _ _ _ c.self.invariant)
