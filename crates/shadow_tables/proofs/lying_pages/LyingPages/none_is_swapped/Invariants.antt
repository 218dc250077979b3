use Rattle.std.proofs.Common.{◌≡◌, ◌<◌, ℕ, Some, slice_get}
use Rattle.vm_types.specs.declared.names.BlockId.TheVariants as block
use Rattle.vm_types.specs.declared.names.Page.{Page}
use Rattle.pager_model.specs.Maps.{proc}
use Rattle.shadow_tables.specs.Lying.{lies_by}
use Rattle.shadow_tables.proofs.lying_pages.LyingPages.none_is_swapped.Given as goal

-- none of those so far lies there
abbrev pub invariant-loop-page : goal.invariant-loop-page
invariant-loop-page l = (k : ℕ) (x : Page) (n : ℕ) → k < l.page-index → slice_get l.page-items k ≡ Some x → lies_by l.self x ≡ Some (block.Swap (proc l.p.0) n) → ⊥
