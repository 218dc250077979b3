-- The block in which a page lies that no flight moves is home.
use Rattle.std.proofs.Common.{◌≡◌, inl, inr, Some, count_by, refl, sym, ap, ◌∙◌, arith}
use Rattle.std.proofs.lemmas.Bool.{false≢true}
use Rattle.vm_types.specs.declared.config.Config.{Config}
use Rattle.vm_types.specs.declared.names.BlockId.{BlockId}
use Rattle.vm_types.specs.declared.names.BlockId.TheVariants as block
use Rattle.vm_types.specs.declared.names.Page.{Page}
use Rattle.pager_model.specs.Around.{PastView, page_view, process_view}
use Rattle.pager_model.specs.Flights.{Direction, Flight, reading, writing}
use Rattle.vm_journal.specs.declared.entry.Role.{Role}
use Rattle.pager_model.specs.Lookups.{own_section}
use Rattle.pager_model.specs.OfConfig.{IsPageOf}
use Rattle.pager_model.specs.Pager.{Pager}
use Rattle.pager_model.specs.Transfers.{is_on_block}
use Rattle.pager_rules.proofs.Lists.{all_found, count_found, found_passes}
use Rattle.pager_rules.proofs.Transfers.{on_frame}
use Rattle.call_laws.proofs.WritesHome.{IsStill, moved_by_none}
use Rattle.pager_rules.proofs.Pages.{behind_section}
use Rattle.pager_rules.proofs.Put.{blocks_equal}
use Rattle.pager_rules.specs.Kept.{FitsDirection, FitsFlight, IsFirstRead, IsKept, views}
use Rattle.content_laws.proofs.LiesOnce.{lies_once, writes_own}
use Rattle.content_laws.proofs.SectionBehind.{in_section, page_real, unshared_own}

module _ (config : Config) (o : PastView) (a : Pager) (kept : IsKept config o a) (g : Page) (b : BlockId) (real : IsPageOf config g) (lies : a.lies g ≡ Some b) (still : IsStill o a g) where
  -- the page of a first read isn't shared, and what lies in its block is
  not_first : (x : Flight) (y : Page) → x.block ≡ b → (r : Role) → IsFirstRead x r y (page_view config a y) → ⊥
  not_first x y is r first = by x.block is first.behind
    where
      by : (c : BlockId) → c ≡ b → own_section a.map y ≡ Some c → ⊥
      by (block.Section s i) same behind =
          let charged = first.charged in
          let mapped = (kept.pages y).mapped (omega (arith, charged)) first.private in
          false≢true (sym (unshared_own config a.map y s i mapped behind) ∙ in_section config o a g s i kept (page_real config g real) (lies ∙ ap Some (sym same)))
      by (block.PageFile n) same behind = false≢true (behind_section a.map y (block.PageFile n) behind)
      by (block.Swap p n) same behind = false≢true (behind_section a.map y (block.Swap p n) behind)

  moves_it : (x : Flight) (y : Page) → x.block ≡ b → (d : Direction) → FitsDirection x y (page_view config a y) (process_view config a) (views config a).entry d → g ≡ y
  moves_it x y is (reading r) (inl there, role) = lies_once config o a kept g y b lies (there ∙ ap Some is)
  moves_it x y is (reading r) (inr first, role) = absurd (not_first x y is r first)
  moves_it x y is writing fits = writes_own config o a kept x y g fits (lies ∙ ap Some (sym is))

  pub lying_home : count_by (is_on_block b) o.flights ≡ 0
  lying_home = moved_by_none o.flights (is_on_block b) (λ x found.
      let fits = all_found (λ (y : Flight). FitsFlight (views config a) y) (is_on_block b) o.flights x kept.transfers found in
      let same = moves_it x fits.page (sym (blocks_equal b x.block (found_passes (is_on_block b) o.flights x found))) x.direction fits.fits in
      let moves = on_frame x o.flights (λ t passes. count_found t (is_on_block b) o.flights x found passes) x.frame refl in
      let none = still x.frame (fits.held ∙ ap Some (sym same)) in
      omega (arith, moves, none))
