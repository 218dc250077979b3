use Rattle.std.proofs.Common.{◌≡◌, ◌+◌, ◌<◌, ℕ, None, Some, List, Option, ap, sym, subst, ◌∙◌, count_by, length, slice_index_or, slice_set}
use Rattle.vm_types.specs.declared.names.Page.{Page}
use Rattle.shadow_tables.specs.Listed.{AreHolders, held_by}
use Rattle.shadow_tables.specs.PageTables.{item_of}
use Rattle.shadow_tables.proofs.Counted.{holders_fill}
use Rattle.shadow_tables.proofs.held_pages.HeldPages.fill.Goals as goal

pub invariant_of-self-2 : goal.invariant_of-self-2
invariant_of-self-2 c =
    let held = c.self.inside.held.items in
    subst (λ (t : Page → Option ℕ). AreHolders (slice_set held c.args.f (Some c.args.page)) t) (sym c.if-not-set.ensures)
    (holders_fill held (item_of c.self.inside.counts) c.self.invariant c.args.f (subst (λ (xs : List (Option Page)). c.args.f < length xs) (sym c.self.view_is) c.requires.within) c.args.page c.in_ok-count.count
    (subst (λ (xs : List (Option Page)). slice_index_or xs c.args.f None ≡ None) (sym c.self.view_is) c.requires.empty)
    (c.in_ok-count.ensures ∙ ap (λ n. n + 1) (c.count.ensures ∙ ap (count_by (held_by c.args.page)) (sym c.self.view_is))))
