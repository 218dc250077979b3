use Rattle.std.proofs.Common.{◌≡◌, ◌∷◌, ◌+◌, ℕ, Some, None, List, Option, ap, sym, subst, ◌∙◌}
use Rattle.vm_types.specs.declared.names.Page.{Page}
use Rattle.pager_model.specs.Changes.{without_page}
use Rattle.pager_model.specs.Lookups.{count_page}
use Rattle.pager_model.specs.Sets.{at_page}
use Rattle.shadow_tables.specs.Listed.{ArePageCounts, pages_after}
use Rattle.shadow_tables.specs.PageTables.{item_of}
use Rattle.shadow_tables.specs.declared.changes.Change.{Change}
use Rattle.shadow_tables.proofs.Counted.{counts_put}
use Rattle.shadow_tables.proofs.page_list.PageList.put.Goals as goal

pub invariant_of-self-2 : goal.invariant_of-self-2
invariant_of-self-2 c =
    let pages = pages_after c.self.inside.changes.list in
    let page = c.args.page in
    subst (λ (cs : List Change). ArePageCounts (pages_after cs) (item_of c.set.new.self) c.in_ok-len.len) (sym c.then-self-inside.ensures)
    (subst (λ (t : Page → Option ℕ). ArePageCounts (page ∷ pages) t c.in_ok-len.len) (sym c.if-not-set.ensures)
    (subst (λ (n : ℕ). ArePageCounts (page ∷ pages) (at_page (item_of c.self.inside.counts) page (Some c.in_ok-count.count)) n) (sym c.in_ok-len.ensures)
    (counts_put pages (item_of c.self.inside.counts) c.self.inside.len c.self.invariant page c.in_ok-count.count
    (c.in_ok-count.ensures ∙ ap (λ n. n + 1) (c.count.ensures ∙ ap (λ (xs : List Page). count_page xs page) (sym c.self.view_is))))))
