-- A process's own page is forgotten: the parts after it, in a state in which the page isn't mapped any more.
use Rattle.std.proofs.Common.{◌≡◌, ℕ, ◌+◌, ◌≤◌, Bool, true, false, cond, not, List, [], ◌∷◌, Option, Some, None, filter, length, refl, sym, ap, ◌∙◌, subst, arith}
use Rattle.std.specs.Prelude.{◌||◌}
use Rattle.std.specs.List.{list_any}
use Rattle.std.specs.Option.{option_map}
use Rattle.std.proofs.lemmas.Bool.{eqb-true, false≢true}
use Rattle.std.proofs.lemmas.Option.{none-some}
use Rattle.vm_types.specs.Same.{same_page}
use Rattle.vm_types.specs.declared.config.Config.{Config}
use Rattle.vm_types.specs.declared.names.BlockId.TheVariants as block
use Rattle.vm_types.specs.declared.names.FrameState.TheVariants as state
use Rattle.vm_types.specs.declared.names.Page.{Page}
use Rattle.vm_types.specs.declared.names.Page.TheVariants.{Private, Shared}
use Rattle.vm_types.specs.declared.names.ProcStatus.TheVariants as status
use Rattle.vm_journal.specs.declared.entry.Entry.{Entry}
use Rattle.global_pages.specs.GlobalPages.{GlobalPages}
use Rattle.page_file.specs.Blocks.{Blocks}
use Rattle.page_lists.specs.Lists.{without}
use Rattle.pfn_database.specs.Frames.{Frames}
use Rattle.pfn_database.specs.Rows.{empty_row}
use Rattle.pager_laws.proofs.KeptIsSound.{count_from_has}
use Rattle.pager_laws.proofs.PageForgotten.{IsIdlePage, dropped_find, dropped_own}
use Rattle.pager_model.specs.Around.{quiet}
use Rattle.pager_model.specs.Changes.{without_assigned, without_page}
use Rattle.pager_model.specs.Flights.{Flight, open_flights}
use Rattle.pager_model.specs.Forget.{forgotten, headed, holder, holds_page, put_at, unlisted}
use Rattle.pager_model.specs.Lookups.{count_page, is_assigned_to, page_at, page_by, shares}
use Rattle.pager_model.specs.Maps.{Map, is_private, proc}
use Rattle.pager_model.specs.Pager.{Assigned, Pager}
use Rattle.pager_model.specs.Sets.{at_number, at_page}
use Rattle.pager_model.specs.Transfers.{reads_on, writes_on}
use Rattle.pager_rules.proofs.Basics.{at_number_other, at_number_same, count_none, pages_equal, same_from_equal}
use Rattle.pager_rules.proofs.Lists.{filter_all}
use Rattle.pager_rules.proofs.Pages.{own_is}
use Rattle.pager_rules.proofs.Put.{lies_other, page_apart}
use Rattle.pager_rules.specs.Kept.{IsKept}
use Rattle.state_parts.specs.ChargedTable.{ChargedTable, IsTableSet, kept_at}
use Rattle.state_parts.specs.SwapTable.{SwapTable, swapped_at}
use Rattle.state_parts.specs.declared.charged_page.ChargedPage.{ChargedPage}
use Rattle.pager_laws.proofs.Holders.{holder_elsewhere, holder_holds, holds_within, none_listed}
use Rattle.state_fits.specs.Entries.{pte_of}
use Rattle.state_fits.specs.File.{FileFits, owner_in}
use Rattle.state_fits.specs.Forgetting.{emptied_frame, uncharged_page}
use Rattle.state_fits.specs.Frames.{FramesFit, frame_row, row_by, slot_for}
use Rattle.state_fits.specs.Globals.{GlobalsFit}
use Rattle.state_fits.specs.Pages.{charged_row}
use Rattle.state_fits.specs.Parts.{Parts}
use Rattle.state_fits.specs.PartsFit.{PartsFit}
use Rattle.state_fits.specs.Swaps.{SwapsFit}
use Rattle.state_fits.proofs.FramePins.{no_pins}
use Rattle.state_fits.proofs.BlockFreed.{length_without, released}
use Rattle.state_fits.proofs.FrameRows.{row_stays}
use Rattle.state_fits.proofs.ShownEntries.{globals_same, pte_stays}
use Rattle.state_fits.proofs.ChargedRows.{row_none, row_some, uncharged_is}
use Rattle.state_fits.proofs.PartsSet.{frames_set, pages_set, tables_same}

-- ---- lists without what passes q
any_left : {X : Type 0} (p q : X → Bool) → ((x : X) → q x ≡ true → p x ≡ false) → (xs : List X) → list_any p (filter (λ (x : X). not (q x)) xs) ≡ list_any p xs
any_left p q far [] = refl
any_left {X} p q far (x ∷ xs) = go (q x) refl (any_left p q far xs)
  where
    rest : List X
    rest = filter (λ (y : X). not (q y)) xs

    go : (c : Bool) → q x ≡ c → list_any p rest ≡ list_any p xs → list_any p (cond (not c) (x ∷ rest) rest) ≡ list_any p (x ∷ xs)
    go true is same = same ∙ sym (ap (λ (b : Bool). b || list_any p xs) (far x is))
    go false is same = ap (λ (b : Bool). p x || b) same

abbrev owner_of : Page → ℕ
owner_of (Private p v) = p.0
owner_of (Shared s i) = 0

abbrev number_of : Page → ℕ
number_of (Private p v) = v
number_of (Shared s i) = 0

module _ (config : Config) (past : List Entry) (a : Pager) (p v : ℕ) (kept : IsKept config (quiet (open_flights past)) a) where
  abbrev g : Page
  g = Private (proc p) v

  abbrev flights : List Flight
  flights = open_flights past

  -- another page
  far : (h : Page) → (h ≡ g → ⊥) → (x : Page) → same_page g x ≡ true → same_page h x ≡ false
  far h apart x is = page_apart h x (λ same. apart (same ∙ sym (pages_equal g x is)))

  -- ---- frames
  emptied_row : (f : ℕ) → shares a.valid f ≡ 0 → reads_on f flights + writes_on f flights ≡ 0
      → empty_row ≡ frame_row (at_number a.state f state.Free) (at_number a.page f None) (at_number a.modify f false) a.valid a.ring flights f
  unfolding frame_row
  emptied_row f unshared still =
      λ i. row_by (sym (at_number_same a.state f state.Free) i) (sym (at_number_same a.page f None) i) (sym (at_number_same a.modify f false) i) (sym unshared i) (sym still i) (slot_for a.ring (sym (at_number_same a.page f None) i)) (sym (no_pins a.valid a.ring f unshared) i)

  frames : IsIdlePage a.page a.valid flights g → (o : Option ℕ) → holder config a.page g ≡ o → (pfns : Frames)
      → FramesFit (frame_row a.state a.page a.modify a.valid a.ring flights) config.frames a.free a.modified pfns
      → FramesFit (frame_row (put_at a.state o state.Free) (put_at a.page o None) (put_at a.modify o false) a.valid a.ring flights) config.frames (headed a.free o) (unlisted a.modified o) (emptied_frame o pfns)
  frames idle None is pfns fit = fit
  frames idle (Some f) is pfns fit =
      let holds = holder_holds config a.page g f is in
      frames_set (frame_row a.state a.page a.modify a.valid a.ring flights) (frame_row (at_number a.state f state.Free) (at_number a.page f None) (at_number a.modify f false) a.valid a.ring flights)
      config.frames a.free (f ∷ without a.free f) a.modified (without a.modified f) pfns (emptied_frame (Some f) pfns) f empty_row fit (holds_within config (quiet flights) a f g kept holds) refl
      (ap (λ (xs : List ℕ). f ∷ without xs f) fit.free_list) (ap (λ (xs : List ℕ). without xs f) fit.modified_list)
      (emptied_row f (idle.unshared f holds) (idle.still f holds))
      (λ h apart. row_stays a.state a.page a.modify a.valid a.ring flights (at_number a.state f state.Free) (at_number a.page f None) (at_number a.modify f false) a.valid a.ring h
      (at_number_other a.state f state.Free h apart) (at_number_other a.page f None h apart) (at_number_other a.modify f false h apart) refl (ap (slot_for a.ring) (at_number_other a.page f None h apart)) refl)

  -- ---- which frames hold the other pages
  held : (o : Option ℕ) → holder config a.page g ≡ o → (h : Page) → (h ≡ g → ⊥) → holder config (put_at a.page o None) h ≡ holder config a.page h
  held None is h apart = refl
  held (Some f) is h apart = holder_elsewhere config a.page f None h (ap (holds_page h) (holder_holds config a.page g f is) ∙ page_apart g h (λ same. apart (sym same))) refl

  -- ---- page table entries, of which none is the page's
  unmapped : (map : Map) → map p v ≡ None → (q w : ℕ) (h : Page) → page_by config map q w ≡ Some h → is_private h ≡ true → h ≡ g → ⊥
  unmapped map gone q w h mapped private same =
      let own = own_is config map q w h mapped private in
      let is : Private (proc q) w ≡ g = sym own ∙ same in
      let there : page_by config map p v ≡ Some h = subst (λ (r : ℕ). page_by config map r v ≡ Some h) (ap owner_of is) (subst (λ (u : ℕ). page_by config map q u ≡ Some h) (ap number_of is) mapped) in
      none-some h (sym (ap (page_at config p v) gone) ∙ there)

  entries : (o : Option ℕ) → holder config a.page g ≡ o → (map : Map) → map p v ≡ None → (q w : ℕ)
      → pte_of config map a.valid (put_at a.page o None) (at_page a.lies g None) q w ≡ pte_of config map a.valid a.page a.lies q w
  entries o is map gone q w = pte_stays config map a.valid a.valid a.page (put_at a.page o None) a.lies (at_page a.lies g None) q w refl
      (λ h mapped private. let apart = unmapped map gone q w h mapped private in (held o is h apart, lies_other a.lies g h None (page_apart h g apart)))

  -- ---- what is kept of charged pages
  abbrev row' : Page → Option ChargedPage
  row' = charged_row (without_page a.charged g) (without_page a.touched g) (at_page a.lies g None) (without_assigned a.assigned g)

  row_here : None ≡ row' g
  row_here = sym (uncharged_is (without_page a.charged g) (without_page a.touched g) (at_page a.lies g None) (without_assigned a.assigned g) g (none_listed (without_page a.charged g) g (dropped_own (same_page g) a.charged)))

  row_there : (h : Page) → same_page g h ≡ false → row' h ≡ charged_row a.charged a.touched a.lies a.assigned h
  unfolding charged_row
  row_there h apart =
      let other : h ≡ g → ⊥ = λ same. false≢true (sym apart ∙ same_from_equal g h (sym same)) in
      let charged = any_left (same_page h) (same_page g) (far h other) a.charged in
      let touched = any_left (same_page h) (same_page g) (far h other) a.touched in
      let lies = lies_other a.lies g h None (page_apart h g other) in
      let assigned = ap (option_map (λ (x : Assigned). x.block)) (dropped_find (is_assigned_to h) (is_assigned_to g) (λ x. far h other x.page) a.assigned) in
      λ i. cond (charged i) (Some (record { touched = touched i; lies = lies i; assigned = assigned i })) None

  -- ---- the page file
  charged_once : count_page a.charged g ≤ 1
  charged_once = (kept.pages g).charged

  pub file_after : (o : Option ChargedPage) → charged_row a.charged a.touched a.lies a.assigned g ≡ o → (n : ℕ) (blocks : Blocks) → FileFits (length a.charged) (length a.assigned) (owner_in a.assigned) n blocks
      → FileFits (length (without_page a.charged g)) (length (without_assigned a.assigned g)) (owner_in (without_assigned a.assigned g)) n (uncharged_page o blocks)
  file_after None none n blocks fit =
      let few = count_none (same_page g) a.charged (row_none a.charged a.touched a.lies a.assigned g none) in
      let unassigned = (kept.pages g).blocks in
      let same = filter_all (same_page g) a.charged few in
      let also = filter_all (is_assigned_to g) a.assigned (omega (arith, unassigned, few)) in
      record {
        count = fit.count;
        charges = fit.charges ∙ ap (λ (xs : List Page). length xs) (sym same);
        blocks = fit.blocks ∙ ap (λ (xs : List Assigned). length xs) (sym also);
        owners = λ b. fit.owners b ∙ ap (λ (xs : List Assigned). owner_in xs b) (sym also);
      }
  file_after (Some row) some n blocks fit =
      let is = row_some a.charged a.touched a.lies a.assigned g row some in
      let few = (kept.pages g).blocks in
      let freed = released a.assigned g (omega (arith, few, charged_once)) (λ b. (kept.blocks (block.PageFile b)).owners) (length a.charged) n blocks row.assigned (ap (λ (r : ChargedPage). r.assigned) (sym is.1)) fit in
      let counted = length_without (same_page g) a.charged in
      let one = count_from_has a.charged g is.0 in
      let charges = fit.charges in
      record {
        count = freed.count;
        charges = omega (arith, counted, one, charges, charged_once);
        blocks = freed.blocks;
        owners = freed.owners;
      }

  -- ---- the swap blocks, of which a resident process has none
  swaps : a.status p ≡ status.Resident → (n : ℕ) (table : SwapTable) → SwapsFit a.lies n table → SwapsFit (at_page a.lies g None) n table
  swaps resident n table fit = record { procs = fit.procs; lying = λ q slot w is. lying q slot w is (same_page g (Private (proc q) w)) refl; found = λ q slot w is. found q slot w (same_page g (Private (proc q) w)) refl is }
    where
      lying : (q slot w : ℕ) → swapped_at table q slot ≡ Some w → (b : Bool) → same_page g (Private (proc q) w) ≡ b → at_page a.lies g None (Private (proc q) w) ≡ Some (block.Swap (proc q) slot)
      lying q slot w is false apart = ap (λ (b : Bool). cond b None (a.lies (Private (proc q) w))) apart ∙ fit.lying q slot w is
      lying q slot w is true same =
          let swapped = kept.swapped g q slot (ap a.lies (pages_equal g (Private (proc q) w) same) ∙ fit.lying q slot w is) in
          absurd (swapped.away (subst (λ (r : ℕ). a.status r ≡ status.Resident) (eqb-true p q swapped.own) resident))

      found : (q slot w : ℕ) (b : Bool) → same_page g (Private (proc q) w) ≡ b → at_page a.lies g None (Private (proc q) w) ≡ Some (block.Swap (proc q) slot) → swapped_at table q slot ≡ Some w
      found q slot w false apart is = fit.found q slot w (sym (ap (λ (b : Bool). cond b None (a.lies (Private (proc q) w))) apart) ∙ is)
      found q slot w true same is = absurd (none-some (block.Swap (proc q) slot) (sym (ap (λ (b : Bool). cond b None (a.lies (Private (proc q) w))) same) ∙ is))

  -- ---- global pages
  globals : (o : Option ℕ) → holder config a.page g ≡ o → (table : GlobalPages) → GlobalsFit config a.page a.valid table → GlobalsFit config (put_at a.page o None) a.valid table
  globals o is table fit = globals_same config a.page (put_at a.page o None) a.valid a.valid table (λ s i. held o is (Shared s i) (λ same. false≢true (ap is_private same))) (λ s i h also. refl) fit

  pub forgotten_parts : IsIdlePage a.page a.valid flights g → a.status p ≡ status.Resident → (map : Map) → map p v ≡ None → (parts : Parts) → PartsFit config past (record a { map = map }) parts
      → (pages' : ChargedTable) → IsTableSet parts.pages pages' g None
      → PartsFit config past (forgotten config (record a { map = map }) g)
      (record parts { frames = emptied_frame (holder config a.page g) parts.frames; pages = pages'; file = uncharged_page (kept_at parts.pages g) parts.file })
  forgotten_parts idle resident map gone parts fit pages' changed =
      record {
        frames = frames idle (holder config a.page g) refl parts.frames fit.frames;
        flights = fit.flights;
        processes = fit.processes;
        spoken = fit.spoken;
        tables = tables_same (pte_of config map a.valid a.page a.lies) (pte_of config map a.valid (put_at a.page (holder config a.page g) None) (at_page a.lies g None)) (length config.procs) parts.tables fit.tables (entries (holder config a.page g) refl map gone);
        sections = fit.sections;
        pages = pages_set config (charged_row a.charged a.touched a.lies a.assigned) row' parts.pages pages' g None fit.pages changed row_here row_there;
        globals = globals (holder config a.page g) refl parts.globals fit.globals;
        file = file_after (kept_at parts.pages g) (sym (fit.pages.each g)) config.pagefile parts.file fit.file;
        swaps = swaps resident (length config.procs) parts.swaps fit.swaps;
        seats = fit.seats;
        failed = fit.failed;
      }
