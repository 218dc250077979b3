use Rattle.std.proofs.Common.{◌≡◌, ◌∙◌, ap, arith}
use Rattle.page_lists.specs.Lists.{TwoLists, count_of}
use Rattle.page_lists.specs.Links.{items_of}
use Rattle.page_lists.specs.declared.list_name.ListName.TheVariants.{Free, Modified}
use Rattle.page_lists.proofs.Moves.{free-lose, modified-lose}
use Rattle.page_lists.proofs.TwoLists.{AreTwoLists-linked, IsOn-below}
use Rattle.page_lists.proofs.lists.Lists.remove.Goals as goal

pub index_mut-requires : goal.index_mut-requires
index_mut-requires c =
    let on = rw (← c.self.view_is) at c.requires in
    let below = IsOn-below _ (AreTwoLists-linked _ _ _ _ _ c.self.invariant) c.args.l c.args.f on in
    omega (arith, below, c.self.invariant.marks_count, c.self.inside.marks.ok.0)

pub invariant_of-self : goal.invariant_of-self
invariant_of-self c =
    let on : count_of (items_of c.self.inside.forward.items c.self.inside.free) c.args.f ≡ 1 = rw (← c.self.view_is) at (rw c.in-Free.is at c.requires) in
    let below = IsOn-below _ (AreTwoLists-linked _ _ _ _ _ c.self.invariant) Free c.args.f on in
    (free-lose _ _ _ _ _ c.self.invariant c.args.f below _ _ _ c.unlink.ensures.count c.unlink.ensures.same_count c.unlink.ensures.linked c.unlink.ensures.first c.unlink.ensures.second on c.unlink.ensures.items c.unlink.ensures.others).0

pub returns-in-Free-clause-other : goal.returns-in-Free-clause-other
returns-in-Free-clause-other c =
    let on : count_of (items_of c.self.inside.forward.items c.self.inside.free) c.args.f ≡ 1 = rw (← c.self.view_is) at (rw c.in-Free.is at c.requires) in
    let below = IsOn-below _ (AreTwoLists-linked _ _ _ _ _ c.self.invariant) Free c.args.f on in
    rw c.in-Free.is ((free-lose _ _ _ _ _ c.self.invariant c.args.f below _ _ _ c.unlink.ensures.count c.unlink.ensures.same_count c.unlink.ensures.linked c.unlink.ensures.first c.unlink.ensures.second on c.unlink.ensures.items c.unlink.ensures.others).1 ∙ ap (λ (lists : TwoLists). lists.modified) c.self.view_is)

pub returns-in-Free-clause-cells : goal.returns-in-Free-clause-cells
returns-in-Free-clause-cells c =
    let on : count_of (items_of c.self.inside.forward.items c.self.inside.free) c.args.f ≡ 1 = rw (← c.self.view_is) at (rw c.in-Free.is at c.requires) in
    let below = IsOn-below _ (AreTwoLists-linked _ _ _ _ _ c.self.invariant) Free c.args.f on in
    (free-lose _ _ _ _ _ c.self.invariant c.args.f below _ _ _ c.unlink.ensures.count c.unlink.ensures.same_count c.unlink.ensures.linked c.unlink.ensures.first c.unlink.ensures.second on c.unlink.ensures.items c.unlink.ensures.others).2 ∙ ap (λ (lists : TwoLists). lists.cells) c.self.view_is

pub returns-in-Free-clause-valid : goal.returns-in-Free-clause-valid
returns-in-Free-clause-valid c = AreTwoLists-linked _ _ _ _ _ (invariant_of-self c)

pub invariant_of-self-in-Modified : goal.invariant_of-self-in-Modified
invariant_of-self-in-Modified c =
    let on : count_of (items_of c.self.inside.forward.items c.self.inside.modified) c.args.f ≡ 1 = rw (← c.self.view_is) at (rw c.in-Modified.is at c.requires) in
    let below = IsOn-below _ (AreTwoLists-linked _ _ _ _ _ c.self.invariant) Modified c.args.f on in
    (modified-lose _ _ _ _ _ c.self.invariant c.args.f below _ _ _ c.unlink-in-Modified.ensures.count c.unlink-in-Modified.ensures.same_count c.unlink-in-Modified.ensures.linked c.unlink-in-Modified.ensures.first c.unlink-in-Modified.ensures.second on c.unlink-in-Modified.ensures.items c.unlink-in-Modified.ensures.others).0

pub returns-in-Modified-clause-other : goal.returns-in-Modified-clause-other
returns-in-Modified-clause-other c =
    let on : count_of (items_of c.self.inside.forward.items c.self.inside.modified) c.args.f ≡ 1 = rw (← c.self.view_is) at (rw c.in-Modified.is at c.requires) in
    let below = IsOn-below _ (AreTwoLists-linked _ _ _ _ _ c.self.invariant) Modified c.args.f on in
    rw c.in-Modified.is ((modified-lose _ _ _ _ _ c.self.invariant c.args.f below _ _ _ c.unlink-in-Modified.ensures.count c.unlink-in-Modified.ensures.same_count c.unlink-in-Modified.ensures.linked c.unlink-in-Modified.ensures.first c.unlink-in-Modified.ensures.second on c.unlink-in-Modified.ensures.items c.unlink-in-Modified.ensures.others).1 ∙ ap (λ (lists : TwoLists). lists.free) c.self.view_is)

pub returns-in-Modified-clause-cells : goal.returns-in-Modified-clause-cells
returns-in-Modified-clause-cells c =
    let on : count_of (items_of c.self.inside.forward.items c.self.inside.modified) c.args.f ≡ 1 = rw (← c.self.view_is) at (rw c.in-Modified.is at c.requires) in
    let below = IsOn-below _ (AreTwoLists-linked _ _ _ _ _ c.self.invariant) Modified c.args.f on in
    (modified-lose _ _ _ _ _ c.self.invariant c.args.f below _ _ _ c.unlink-in-Modified.ensures.count c.unlink-in-Modified.ensures.same_count c.unlink-in-Modified.ensures.linked c.unlink-in-Modified.ensures.first c.unlink-in-Modified.ensures.second on c.unlink-in-Modified.ensures.items c.unlink-in-Modified.ensures.others).2 ∙ ap (λ (lists : TwoLists). lists.cells) c.self.view_is

pub returns-in-Modified-clause-valid : goal.returns-in-Modified-clause-valid
returns-in-Modified-clause-valid c = AreTwoLists-linked _ _ _ _ _ (invariant_of-self-in-Modified c)
