use Rattle.std.proofs.Common.{◌≡◌, Some, refl, sym, ◌∙◌}
use Rattle.page_lists.specs.declared.list_name.ListName.TheVariants.{Free, Modified}
use Rattle.page_lists.specs.Links.{mark_of}
use Rattle.page_lists.proofs.TwoLists.{AreTwoLists-linked, IsNext-free, IsNext-modified, IsNext-none}
use Rattle.page_lists.proofs.lists.Lists.next.Goals as goal

pub returns-in-Some-Free-clause-next : goal.returns-in-Some-Free-clause-next
returns-in-Some-Free-clause-next c =
    let mark : mark_of c.self.inside.marks.items c.args.f ≡ Some Free = sym c.mark_at.ensures ∙ c.in-Some-Free.is ∙ rw c.in-Some-Free.field-0-is refl in
    rw (← c.self.view_is) (rw c.next_in.ensures (IsNext-free _ _ _ _ _ c.self.invariant c.args.f mark))

pub returns-in-Some-Modified-clause-next : goal.returns-in-Some-Modified-clause-next
returns-in-Some-Modified-clause-next c =
    let mark : mark_of c.self.inside.marks.items c.args.f ≡ Some Modified = sym c.mark_at.ensures ∙ c.in-Some-Modified.is ∙ rw c.in-Some-Modified.field-0-is refl in
    rw (← c.self.view_is) (rw c.next_in-in-Some-Modified.ensures (IsNext-modified _ _ _ _ _ c.self.invariant c.args.f mark))

pub returns-in-None-clause-next : goal.returns-in-None-clause-next
returns-in-None-clause-next c =
    rw (← c.self.view_is) (IsNext-none _ _ _ _ _ c.self.invariant c.args.f (sym c.mark_at.ensures ∙ c.in-None.is))

pub returns-in-Some-Free-clause-valid : goal.returns-in-Some-Free-clause-valid
returns-in-Some-Free-clause-valid c = rw (← c.self.view_is) (AreTwoLists-linked _ _ _ _ _ c.self.invariant)

pub returns-in-Some-Modified-clause-valid : goal.returns-in-Some-Modified-clause-valid
returns-in-Some-Modified-clause-valid c = rw (← c.self.view_is) (AreTwoLists-linked _ _ _ _ _ c.self.invariant)

pub returns-in-None-clause-valid : goal.returns-in-None-clause-valid
returns-in-None-clause-valid c = rw (← c.self.view_is) (AreTwoLists-linked _ _ _ _ _ c.self.invariant)
