-- A page that a frame holds lies in the block to which it was written: what is kept of it, the swap blocks and
-- the page tables.
use Rattle.std.proofs.Common.{◌≡◌, ◌⊎◌, ℕ, Bool, true, false, List, Option, Some, None, nat_eq, refl, sym, ap, ◌∙◌, subst, inl, inr}
use Rattle.std.specs.Prelude.{◌&&◌}
use Rattle.std.specs.Option.{option_map}
use Rattle.std.proofs.lemmas.Bool.{eqb-true, false≢true, true≢false}
use Rattle.std.proofs.lemmas.Option.{none-some}
use Rattle.vm_types.specs.PagePlaces.{changed_at}
use Rattle.vm_types.specs.Ring.{Held}
use Rattle.vm_types.specs.Same.{same_page}
use Rattle.vm_types.specs.declared.config.Config.{Config}
use Rattle.vm_types.specs.declared.config.Origin.{Origin}
use Rattle.vm_types.specs.declared.names.BlockId.{BlockId}
use Rattle.vm_types.specs.declared.names.BlockId.TheVariants as block
use Rattle.vm_types.specs.declared.names.Page.{Page}
use Rattle.vm_types.specs.declared.names.Page.TheVariants.{Private, Shared}
use Rattle.vm_types.specs.declared.names.Proc.{Proc}
use Rattle.page_tables.specs.PageTables.{PageTables}
use Rattle.state_parts.specs.ChargedTable.{ChargedTable, IsTableSet, kept_at}
use Rattle.state_parts.specs.SwapTable.{SwapTable, swapped_at}
use Rattle.state_parts.specs.declared.charged_page.ChargedPage.{ChargedPage}
use Rattle.pager_laws.proofs.OutOkKept.{one_in_slot}
use Rattle.pager_model.specs.Around.{PastView, page_view, process_view}
use Rattle.pager_model.specs.Flights.{Flight}
use Rattle.pager_model.specs.Forget.{holder}
use Rattle.pager_model.specs.Lookups.{block_of, entry_of, slot_of}
use Rattle.pager_model.specs.Maps.{Map, Mapped, is_private, page_behind, proc}
use Rattle.pager_model.specs.OutLanding.{lies_at}
use Rattle.pager_model.specs.Pager.{Pager, Valid}
use Rattle.pager_model.specs.Sets.{at_page, has_page}
use Rattle.pager_model.specs.Sound.{FitsSlot}
use Rattle.pager_rules.proofs.Basics.{pages_equal, same_page_refl}
use Rattle.pager_rules.proofs.Put.{lies_other, lies_same}
use Rattle.pager_rules.specs.Kept.{FitsWrite, IsKept}
use Rattle.pager_laws.proofs.Holders.{and_apart, holder_there}
use Rattle.state_fits.specs.Entries.{TablesFit, place_away, pte_at, pte_by, pte_of}
use Rattle.state_fits.specs.Pages.{PagesFit, charged_row}
use Rattle.state_fits.specs.Swaps.{SwapsFit}
use Rattle.state_fits.specs.Writes.{landed_row, lying_in, slot_emptied, slot_filled, swaps_landed, swaps_written}
use Rattle.state_fits.proofs.ChargedRows.{charged_is, counted_page, pages_changed, row_lies, uncharged_is}
use Rattle.state_fits.proofs.OnePlace.{apart_back}
use Rattle.state_fits.proofs.PartsSet.{pages_kept, pages_set, tables_same}
use Rattle.state_fits.proofs.SwapBlocks.{AreLying, swaps_emptied, swaps_filled, swaps_from, swaps_same}

-- ---- page table entries
-- where a page lies shows in no entry while a frame holds it
module _ (config : Config) (p v : ℕ) (holds : Page → Option ℕ) (lies lies' : Page → Option BlockId) where
  away_held : (g : Page) (o : Origin) → (is_private g ≡ true → (lies' g ≡ lies g) ⊎ ((f : ℕ) × (holds g ≡ Some f))) → place_away config g o (holds g) (lies' g) ≡ place_away config g o (holds g) (lies g)
  away_held (Shared s i) o held = refl
  away_held (Private q w) o held = go (held refl)
    where
      go : (lies' (Private q w) ≡ lies (Private q w)) ⊎ ((f : ℕ) × (holds (Private q w) ≡ Some f)) → place_away config (Private q w) o (holds (Private q w)) (lies' (Private q w)) ≡ place_away config (Private q w) o (holds (Private q w)) (lies (Private q w))
      go (inl same) = rw same refl
      go (inr there) = rw there.1 refl

  by_held : (g : Page) (m : Mapped) (valid : Option Valid) → (is_private g ≡ true → (lies' g ≡ lies g) ⊎ ((f : ℕ) × (holds g ≡ Some f))) → pte_by config g m valid (holds g) (lies' g) ≡ pte_by config g m valid (holds g) (lies g)
  by_held g m (Some e) held = refl
  by_held g m None held = rw (away_held g m.origin held) refl

  at_held : (valid : Option Valid) (mapped : Option Mapped) → ((g : Page) → is_private g ≡ true → (lies' g ≡ lies g) ⊎ ((f : ℕ) × (holds g ≡ Some f))) → pte_at config p v holds lies' valid mapped ≡ pte_at config p v holds lies valid mapped
  at_held valid None held = refl
  at_held valid (Some m) held = ap Some (by_held (page_behind config p v m.origin) m valid (held (page_behind config p v m.origin)))

pub pte_held : (config : Config) (map : Map) (valid : List Valid) (page : ℕ → Option Page) (lies lies' : Page → Option BlockId) (p v : ℕ)
    → ((g : Page) → is_private g ≡ true → (lies' g ≡ lies g) ⊎ ((f : ℕ) × (holder config page g ≡ Some f))) → pte_of config map valid page lies' p v ≡ pte_of config map valid page lies p v
unfolding pte_of
pte_held config map valid page lies lies' p v held = at_held config p v (holder config page) lies lies' (entry_of valid p v) (map p v) held

module _ (config : Config) (o : PastView) (a : Pager) (f : ℕ) (kept : IsKept config o a) where
  pub tables_written : (g : Page) (d : BlockId) → a.page f ≡ Some g → (n : ℕ) (tables : PageTables) → TablesFit (pte_of config a.map a.valid a.page a.lies) n tables → TablesFit (pte_of config a.map a.valid a.page (at_page a.lies g (Some d))) n tables
  tables_written g d holds n tables fit =
      tables_same (pte_of config a.map a.valid a.page a.lies) (pte_of config a.map a.valid a.page (at_page a.lies g (Some d))) n tables fit
      (λ p v. pte_held config a.map a.valid a.page a.lies (at_page a.lies g (Some d)) p v (λ h private. go h (same_page h g) refl))
    where
      go : (h : Page) (b : Bool) → same_page h g ≡ b → (at_page a.lies g (Some d) h ≡ a.lies h) ⊎ ((e : ℕ) × (holder config a.page h ≡ Some e))
      go h false apart = inl (lies_other a.lies g h (Some d) apart)
      go h true same = inr (f, holder_there config o a h f kept (holds ∙ ap Some (sym (pages_equal h g same))))

  -- ---- a private page
  module _ (p : Proc) (v : ℕ) (d : BlockId) (holds : a.page f ≡ Some (Private p v)) where
    abbrev g : Page
    g = Private p v

    abbrev lies' : Page → Option BlockId
    lies' = at_page a.lies g (Some d)

    there : (x : Option BlockId) (q w : ℕ) → (nat_eq p.0 q && nat_eq v w) ≡ false → at_page a.lies g x (Private (proc q) w) ≡ a.lies (Private (proc q) w)
    there x q w apart = lies_other a.lies g (Private (proc q) w) x (and_apart p.0 q v w apart)

    module _ (table : ChargedTable) (fit : PagesFit config (charged_row a.charged a.touched a.lies a.assigned) table) where
      read : kept_at table g ≡ Some (record { touched = has_page a.touched g; lies = a.lies g; assigned = block_of a.assigned g })
      read = fit.each g ∙ charged_is a.charged a.touched a.lies a.assigned g (counted_page a.charged g (kept.held_charged f g refl holds))

      -- ---- the swap blocks
      module _ (x : Flight) (goes : x.block ≡ d) (fits : FitsWrite x g (page_view config a g) (process_view config a)) (slots : ℕ) (swaps : SwapTable) (lying : SwapsFit a.lies slots swaps) where
        abbrev nowhere : Page → Option BlockId
        nowhere = at_page a.lies g None

        before : AreLying a.lies (swapped_at swaps)
        before = record { lying = lying.lying; found = lying.found }

        not_there : nowhere g ≡ None
        not_there = lies_same a.lies g None

        no_swap : (b : Option BlockId) → a.lies g ≡ b → ((q : Proc) (m : ℕ) → b ≡ Some (block.Swap q m) → ⊥) → AreLying nowhere (swapped_at swaps)
        no_swap b is other =
            swaps_same a.lies nowhere p.0 v (there None) (swapped_at swaps) before (λ c q m lies same. other q m (sym is ∙ (lies ∙ ap Some same))) (λ c q m lies same. none-some c (sym not_there ∙ lies))

        emptied : (b : Option BlockId) → a.lies g ≡ b → AreLying nowhere (slot_emptied b (swapped_at swaps))
        emptied None is = no_swap None is (λ q m same. none-some (block.Swap q m) same)
        emptied (Some (block.PageFile b)) is = no_swap (Some (block.PageFile b)) is (λ q m same. cc)
        emptied (Some (block.Section s i)) is = no_swap (Some (block.Section s i)) is (λ q m same. cc)
        emptied (Some (block.Swap q m)) is =
            let own : p.0 ≡ q.0 = eqb-true p.0 q.0 (kept.swapped g q.0 m is).own in
            subst (λ (r : ℕ). AreLying nowhere (λ s u. changed_at (swapped_at swaps) r m None s u)) own
            (swaps_emptied a.lies nowhere p.0 v (there None) (swapped_at swaps) before m (is ∙ ap (λ (r : ℕ). Some (block.Swap (proc r) m)) (sym own)) not_there)

        -- from lying nowhere to lying in the block
        moved : (q w : ℕ) → (nat_eq p.0 q && nat_eq v w) ≡ false → lies' (Private (proc q) w) ≡ nowhere (Private (proc q) w)
        moved q w apart = there (Some d) q w apart ∙ sym (there None q w apart)

        -- no other page lies in the swap block
        alone : (q : Proc) (m : ℕ) → d ≡ block.Swap q m → (p.0 ≡ q.0) × ((w : ℕ) → nowhere (Private p w) ≡ Some (block.Swap q m) → ⊥)
        alone q m is = go fits
          where
            go : FitsWrite x g (page_view config a g) (process_view config a) → (p.0 ≡ q.0) × ((w : ℕ) → nowhere (Private p w) ≡ Some (block.Swap q m) → ⊥)
            go (inl section) = absurd (true≢false section.0)
            go (inr (inl file)) = absurd (let e = sym file.2 ∙ (goes ∙ is) in cc)
            go (inr (inr swap)) = (own ∙ ap (λ (r : Proc). r.0) proc_is, λ w lies. by w lies (same_page (Private p w) g) refl)
              where
                blocks : block.Swap (proc swap.p) swap.n ≡ block.Swap q m
                blocks = sym swap.block ∙ (goes ∙ is)

                proc_is : proc swap.p ≡ q
                proc_is = cc (blocks)

                slot_is : swap.n ≡ m
                slot_is = cc (blocks)

                own : p.0 ≡ swap.p
                own = eqb-true p.0 swap.p swap.own

                by : (w : ℕ) → nowhere (Private p w) ≡ Some (block.Swap q m) → (c : Bool) → same_page (Private p w) g ≡ c → ⊥
                by w lies true same = none-some (block.Swap q m) (sym not_there ∙ (ap nowhere (sym (pages_equal (Private p w) g same)) ∙ lies))
                by w lies false apart =
                    let held = (kept.swapped (Private p w) swap.p swap.n (sym (lies_other a.lies g (Private p w) None apart) ∙ (lies ∙ ap Some (sym blocks)))).slot in
                    let same = one_in_slot swap.p swap.held (Private p w) g (subst (λ (e : Option (Option Held)). FitsSlot swap.p (slot_of e) (Private p w)) swap.slot held) swap.fits in
                    false≢true (sym apart ∙ subst (λ (y : Page). same_page (Private p w) y ≡ true) same (same_refl (Private p w)))
                  where
                    same_refl : (y : Page) → same_page y y ≡ true
                    same_refl y = same_page_refl y

        filled : (t : ℕ → ℕ → Option ℕ) → AreLying nowhere t → (b : BlockId) → d ≡ b → AreLying lies' (slot_filled b v t)
        filled t are (block.PageFile b) is = swaps_same nowhere lies' p.0 v moved t are (λ c q m lies same. none-some c (sym not_there ∙ lies)) (λ c q m lies same. absurd (let e : Some d ≡ Some c = sym (lies_same a.lies g (Some d)) ∙ lies in cc))
        filled t are (block.Section s i) is = swaps_same nowhere lies' p.0 v moved t are (λ c q m lies same. none-some c (sym not_there ∙ lies)) (λ c q m lies same. absurd (let e : Some d ≡ Some c = sym (lies_same a.lies g (Some d)) ∙ lies in cc))
        filled t are (block.Swap q m) is =
            let own = (alone q m is).0 in
            subst (λ (r : ℕ). AreLying lies' (λ s u. changed_at t r m (Some v) s u)) own
            (swaps_filled nowhere lies' p.0 v moved t are m not_there (lies_same a.lies g (Some d) ∙ ap Some (is ∙ ap (λ (r : ℕ). block.Swap (proc r) m) (sym own)))
            (λ w lies. (alone q m is).1 w (lies ∙ ap (λ (r : ℕ). Some (block.Swap (proc r) m)) own)))

        private_swaps : (new : SwapTable) → new.procs ≡ swaps.procs → ((q m : ℕ) → swapped_at new q m ≡ swaps_written g d (kept_at table g) (swapped_at swaps) q m) → SwapsFit lies' slots new
        private_swaps new procs written =
            swaps_from a.lies lies' (slot_filled d v (slot_emptied (a.lies g) (swapped_at swaps))) slots swaps new lying (filled (slot_emptied (a.lies g) (swapped_at swaps)) (emptied (a.lies g) refl) d refl) procs
            (λ q m. written q m ∙ ap (λ (c : Option ChargedPage). swaps_written g d c (swapped_at swaps) q m) read)

  -- ---- a page that was modified meanwhile lies where it lay
  module _ (g : Page) (holds : a.page f ≡ Some g) (x : Flight) (fits : FitsWrite x g (page_view config a g) (process_view config a)) (slots : ℕ) (table : ChargedTable) (swaps : SwapTable)
      (fit : PagesFit config (charged_row a.charged a.touched a.lies a.assigned) table) (lying : SwapsFit a.lies slots swaps) where
    -- by whether the page is charged
    written_pages : (new : ChargedTable) → IsTableSet table new g (option_map (lying_in x.block) (kept_at table g)) → (b : Bool) → has_page a.charged g ≡ b → PagesFit config (charged_row a.charged a.touched (at_page a.lies g (Some x.block)) a.assigned) new
    written_pages new written true is =
        pages_changed a.charged a.touched a.lies a.assigned g is (at_page a.lies g (Some x.block)) a.assigned (λ h apart. (lies_other a.lies g h (Some x.block) (apart_back g h apart), refl)) config table new
        (record { touched = has_page a.touched g; lies = Some x.block; assigned = block_of a.assigned g }) fit
        (subst (λ (c : Option ChargedPage). IsTableSet table new g (option_map (lying_in x.block) c)) (fit.each g ∙ charged_is a.charged a.touched a.lies a.assigned g is) written)
        (λ i. record { touched = has_page a.touched g; lies = sym (lies_same a.lies g (Some x.block)) i; assigned = block_of a.assigned g })
    written_pages new written false is =
        pages_set config (charged_row a.charged a.touched a.lies a.assigned) (charged_row a.charged a.touched (at_page a.lies g (Some x.block)) a.assigned) table new g (option_map (lying_in x.block) (kept_at table g)) fit written
        (ap (option_map (lying_in x.block)) (fit.each g ∙ uncharged_is a.charged a.touched a.lies a.assigned g is) ∙ sym (uncharged_is a.charged a.touched (at_page a.lies g (Some x.block)) a.assigned g is))
        (λ h apart. row_lies a.charged a.touched a.lies (at_page a.lies g (Some x.block)) a.assigned h (lies_other a.lies g h (Some x.block) (apart_back g h apart)))

    pub landed_pages : (m : Bool) (new : ChargedTable) → IsTableSet table new g (landed_row m x.block (kept_at table g)) → PagesFit config (charged_row a.charged a.touched (lies_at a.lies m (Some g) x.block) a.assigned) new
    landed_pages true new written = pages_kept config (charged_row a.charged a.touched a.lies a.assigned) table new g (kept_at table g) fit written (fit.each g)
    landed_pages false new written = written_pages new written (has_page a.charged g) refl

    pub landed_swaps : (m : Bool) (new : SwapTable) → new.procs ≡ swaps.procs → ((q n : ℕ) → swapped_at new q n ≡ swaps_landed m g x.block (kept_at table g) (swapped_at swaps) q n) → SwapsFit (lies_at a.lies m (Some g) x.block) slots new
    landed_swaps true new same written = swaps_from a.lies a.lies (swapped_at swaps) slots swaps new lying (record { lying = lying.lying; found = lying.found }) same written
    landed_swaps false new same written = by g holds fits written
      where
        by : (h : Page) → a.page f ≡ Some h → FitsWrite x h (page_view config a h) (process_view config a) → ((q n : ℕ) → swapped_at new q n ≡ swaps_written h x.block (kept_at table h) (swapped_at swaps) q n)
            → SwapsFit (at_page a.lies h (Some x.block)) slots new
        by (Private p v) holds fits written = private_swaps p v x.block holds table fit x refl fits slots swaps lying new same written
        by (Shared s i) holds fits written =
            swaps_from a.lies (at_page a.lies (Shared s i) (Some x.block)) (swapped_at swaps) slots swaps new lying (record { lying = lying.lying; found = lying.found }) same
            (λ q n. written q n ∙ unmoved (kept_at table (Shared s i)) q n)
          where
            unmoved : (c : Option ChargedPage) (q n : ℕ) → swaps_written (Shared s i) x.block c (swapped_at swaps) q n ≡ swapped_at swaps q n
            unmoved None q n = refl
            unmoved (Some row) q n = refl

    pub landed_tables : (m : Bool) (tables : PageTables) → TablesFit (pte_of config a.map a.valid a.page a.lies) slots tables → TablesFit (pte_of config a.map a.valid a.page (lies_at a.lies m (Some g) x.block)) slots tables
    landed_tables true tables old = old
    landed_tables false tables old = tables_written g x.block holds slots tables old
