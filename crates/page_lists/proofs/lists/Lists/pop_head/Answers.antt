use Rattle.std.proofs.Common.{sym, ◌∙◌}
use Rattle.page_lists.proofs.TwoLists.{IsOn-head, without-head}
use Rattle.page_lists.proofs.lists.Lists.pop_head.Goals as goal

pub remove-requires : goal.remove-requires
remove-requires c = IsOn-head _ c.head.ensures.valid c.args.l c.in_ok-f.f (sym c.in_ok-f.ensures.head)

pub returns-clause-list : goal.returns-clause-list
returns-clause-list c =
    let head = sym c.in_ok-f.ensures.head in
    c.remove.ensures.list ∙ without-head _ c.in_ok-f.f (IsOn-head _ c.head.ensures.valid c.args.l c.in_ok-f.f head) head
