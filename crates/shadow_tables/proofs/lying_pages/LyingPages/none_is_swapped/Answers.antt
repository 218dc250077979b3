use Rattle.std.proofs.Common.{◌≡◌, List, Some, ap, arith, slice_get, subst, sym, ◌∙◌}
use Rattle.vm_types.specs.declared.names.BlockId.TheVariants as block
use Rattle.vm_types.specs.declared.names.Page.{Page}
use Rattle.pager_model.specs.Maps.{proc}
use Rattle.shadow_tables.specs.Lying.{Said, lies_by}
use Rattle.shadow_tables.proofs.Swapped.{swapped_listed}
use Rattle.shadow_tables.proofs.lying_pages.LyingPages.none_is_swapped.Goals as goal

pub returns : goal.returns
returns c = (
  λ yes g n is.
      let said : Said = (c.self.inside.kinds.items, c.self.inside.said) in
      let found = swapped_listed said _ c.self.inside.swapped.items g (c.args.p).0 n c.self.invariant (subst (λ (s : Said). lies_by s g ≡ Some (block.Swap (proc (c.args.p).0) n)) (sym c.self.view_is) is) in
      let inside = found.1 in
      c.loop-page.invariant found.0 g n (omega (arith, inside, c.loop-page-test.false, c.loop-page.auto.page-index-end, c.deref-page-items.ensures.len, c.self.inside.swapped.ok.0))
      (ap (λ (pages : List Page). slice_get pages found.0) c.deref-page-items.ensures.value ∙ found.2) is,
  λ none. search,
)
