-- The block to which a page of the modified list is written is home.
use Rattle.std.proofs.Common.{◌≡◌, inl, inr, ℕ, zero, suc, ◌+◌, ◌<◌, Bool, true, List, Option, Some, None, find, count_by, nat_eq, refl, sym, ap, ◌∙◌, subst, arith}
use Rattle.std.specs.Option.{option_map}
use Rattle.std.proofs.lemmas.Bool.{false≢true}
use Rattle.std.proofs.lemmas.Option.{none-some, same_Some}
use Rattle.vm_types.specs.declared.config.Config.{Config}
use Rattle.vm_types.specs.declared.names.BlockId.{BlockId}
use Rattle.vm_types.specs.declared.names.BlockId.TheVariants as block
use Rattle.vm_types.specs.declared.names.FrameState.TheVariants as state
use Rattle.vm_types.specs.declared.names.Page.{Page}
use Rattle.pager_model.specs.Around.{PastView, frame_view, page_view, process_view}
use Rattle.pager_model.specs.Flights.{Direction, Flight, reading, writing}
use Rattle.pager_model.specs.Lookups.{block_of, is_assigned_to, is_owner}
use Rattle.page_lists.specs.Lists.{count_of}
use Rattle.pager_model.specs.Maps.{proc}
use Rattle.pager_model.specs.Pager.{Assigned, Pager}
use Rattle.pager_model.specs.Transfers.{is_on_block, reads_on, writes_on}
use Rattle.pager_rules.proofs.Basics.{nat_eq_refl}
use Rattle.pager_rules.proofs.Frames.{at_state, modified_frame}
use Rattle.pager_rules.proofs.Lists.{all_found, count_found, found_one, found_passes}
use Rattle.pager_rules.proofs.Pages.{behind_section}
use Rattle.pager_rules.proofs.Put.{blocks_equal}
use Rattle.pager_rules.proofs.Transfers.{on_frame}
use Rattle.pager_rules.specs.Kept.{FitsDirection, FitsFlight, IsKept, views}
use Rattle.content_laws.proofs.LiesOnce.{owner_once}

-- a page that no flight moves
abbrev pub IsStill : PastView → Pager → Page → Type 0
IsStill o a g = (f : ℕ) → a.page f ≡ Some g → reads_on f o.flights + writes_on f o.flights ≡ 0

pub moved_by_none : (flights : List Flight) (t : Flight → Bool) → ((x : Flight) → find t flights ≡ Some x → ⊥) → count_by t flights ≡ 0
moved_by_none flights t none = go (count_by t flights) refl
  where
    go : (n : ℕ) → count_by t flights ≡ n → n ≡ 0
    go zero is = refl
    go (suc n) is = let found = found_one t flights (omega (arith, is)) in absurd (none found.0 found.1)

module _ (config : Config) (o : PastView) (a : Pager) (kept : IsKept config o a) where
  -- a flight on a block of the page file moves the page to which the block is assigned
  file_owner : (n : ℕ) (x : Flight) (y : Page) → x.block ≡ block.PageFile n → (d : Direction) → FitsDirection x y (page_view config a y) (process_view config a) (views config a).entry d → block_of a.assigned y ≡ Some n
  file_owner n x y is (reading r) (inl lies, role) = (kept.pages y).in_file n (lies ∙ ap Some is)
  file_owner n x y is (reading r) (inr first, role) = absurd (false≢true (behind_section a.map y (block.PageFile n) (first.behind ∙ ap Some is)))
  file_owner n x y is writing (inl shared) = (kept.pages y).in_file n (shared.1 ∙ ap Some is)
  file_owner n x y is writing (inr (inl file)) = file.1 ∙ ap Some (number_same (sym file.2 ∙ is))
    where
      number : BlockId → ℕ
      number (block.PageFile m) = m
      number other = 0

      number_same : {m k : ℕ} → block.PageFile m ≡ block.PageFile k → m ≡ k
      number_same same = ap number same
  file_owner n x y is writing (inr (inr swap)) = absurd (let both : block.PageFile n ≡ block.Swap (proc swap.p) swap.n = sym is ∙ swap.block in cc)

  fits_of : (b : BlockId) (x : Flight) → find (is_on_block b) o.flights ≡ Some x → FitsFlight (views config a) x
  fits_of b x found = all_found (λ (y : Flight). FitsFlight (views config a) y) (is_on_block b) o.flights x kept.transfers found

  block_is : (b : BlockId) (x : Flight) → find (is_on_block b) o.flights ≡ Some x → x.block ≡ b
  block_is b x found = sym (blocks_equal b x.block (found_passes (is_on_block b) o.flights x found))

  -- a block that is assigned to a page which no flight moves
  pub assigned_home : (g : Page) (n : ℕ) → block_of a.assigned g ≡ Some n → IsStill o a g → count_by (is_on_block (block.PageFile n)) o.flights ≡ 0
  assigned_home g n assigned still = moved_by_none o.flights (is_on_block (block.PageFile n)) (λ x found.
      let fits = fits_of (block.PageFile n) x found in
      let owner = file_owner n x fits.page (block_is (block.PageFile n) x found) x.direction fits.fits in
      let fit = kept.pages g in
      let same = owner_once a.assigned g fits.page n (kept.blocks (block.PageFile n)).owners (omega (arith, fit.blocks, fit.charged)) assigned owner in
      let moves = on_frame x o.flights (λ t passes. count_found t (is_on_block (block.PageFile n)) o.flights x found passes) x.frame refl in
      let none = still x.frame (fits.held ∙ ap Some (sym same)) in
      omega (arith, moves, none))

  -- a block that is assigned to no page
  pub unassigned_home : (n : ℕ) → count_by (is_owner (block.PageFile n)) a.assigned ≡ 0 → count_by (is_on_block (block.PageFile n)) o.flights ≡ 0
  unassigned_home n none = moved_by_none o.flights (is_on_block (block.PageFile n)) (λ x found.
      let fits = fits_of (block.PageFile n) x found in
      let owner = file_owner n x fits.page (block_is (block.PageFile n) x found) x.direction fits.fits in
      by fits.page (find (is_assigned_to fits.page) a.assigned) refl owner)
    where
      by : (y : Page) (u : Option Assigned) → find (is_assigned_to y) a.assigned ≡ u → option_map (λ (z : Assigned). z.block) u ≡ Some n → ⊥
      by y None is owner = none-some n owner
      by y (Some z) is owner =
          let some = count_found (is_owner (block.PageFile n)) (is_assigned_to y) a.assigned z is (subst (λ (m : ℕ). nat_eq z.block m ≡ true) (same_Some z.block n owner) (nat_eq_refl z.block)) in
          omega (arith, some, none)

  -- the page of a frame on the modified list
  pub listed_still : (f : ℕ) (g : Page) → 0 < count_of a.modified f → a.page f ≡ Some g → IsStill o a g
  listed_still f g listed holds k held =
      let same = kept.held_once k f g held holds in
      subst (λ (n : ℕ). reads_on n o.flights + writes_on n o.flights ≡ 0) (sym same) none
    where
      none : reads_on f o.flights + writes_on f o.flights ≡ 0
      none =
          let fits = kept.frames f in
          let row = at_state (frame_view config o a f) state.Modified (modified_frame (frame_view config o a f) fits listed) fits in
          let reads = row.reads in
          let writes = row.writes in
          omega (arith, reads, writes)
