-- A read lands and its page is valid: the frame's row, the page's entry, and all parts.
use Rattle.std.proofs.Common.{◌≡◌, ℕ, ◌+◌, Bool, false, List, ◌∷◌, Option, Some, None, nat_eq, slice_set, refl, sym, ap, ◌∙◌, arith}
use Rattle.std.specs.Prelude.{◌&&◌}
use Rattle.std.proofs.lemmas.Bool.{and_from, ne_eqb}
use Rattle.vm_types.specs.PagePlaces.{changed_at}
use Rattle.vm_types.specs.Ring.{Ring, fresh_slot}
use Rattle.vm_types.specs.declared.config.Config.{Config}
use Rattle.vm_types.specs.declared.names.BlockId.{BlockId}
use Rattle.vm_types.specs.declared.names.FrameState.TheVariants as state
use Rattle.vm_types.specs.declared.names.Page.{Page}
use Rattle.vm_types.specs.declared.names.Page.TheVariants.{Private, Shared}
use Rattle.page_tables.specs.PageTables.{PageTables, pte_in}
use Rattle.pte_forms.specs.declared.pte.Place.TheVariants as place
use Rattle.pte_forms.specs.declared.pte.Pte.{Pte}
use Rattle.pfn_database.specs.Frames.{Frames, row_of}
use Rattle.pfn_database.specs.Rows.{counted_references, uncounted}
use Rattle.pfn_database.specs.declared.row.Row.{Row}
use Rattle.pager_model.specs.Around.{PastView}
use Rattle.pager_model.specs.Changes.{valid_at}
use Rattle.pager_model.specs.Flights.{Flight}
use Rattle.pager_model.specs.Maps.{pfn, proc}
use Rattle.pager_model.specs.Lookups.{entries_at, is_entry, page_by, shares}
use Rattle.pager_model.specs.Pager.{Pager, Valid}
use Rattle.pager_model.specs.Sets.{at_number}
use Rattle.pager_model.specs.Transfers.{reads_on, writes_on}
use Rattle.pager_rules.proofs.Basics.{at_number_other, at_number_same, count_cons_no, count_cons_yes, find_cons_no, find_cons_yes, find_none_from_count, nat_eq_refl}
use Rattle.pager_rules.proofs.Pages.{own_is}
use Rattle.pager_rules.specs.Kept.{IsKept}
use Rattle.pager_laws.proofs.EntryPages.{mapped_there, own_frame}
use Rattle.state_fits.specs.Changes.{page_slot}
use Rattle.state_fits.specs.Entries.{TablesFit, pte_of}
use Rattle.state_fits.specs.Frames.{FramesFit, frame_pins, frame_row, row_by, slot_for}
use Rattle.state_fits.proofs.FramePins.{pins_entered}
use Rattle.state_fits.proofs.FrameRows.{over_pins}
use Rattle.state_fits.proofs.EnteredFrame.{IsPut}
use Rattle.state_fits.proofs.ShownEntries.{pte_stays}
use Rattle.state_fits.proofs.KnownEntries.{placed_at, pte_known, pte_valid}
use Rattle.state_fits.proofs.PartsSet.{frames_set, tables_set}
use Rattle.state_fits.proofs.ReadLanded.{IsLandedOn}
use Rattle.state_fits.proofs.RingSlots.{slot_put, slot_stays}
use Rattle.state_fits.proofs.UnsharedFrames.{no_entries}

module _ (config : Config) (o : PastView) (a : Pager) (flights rest : List Flight) (f p v : ℕ) (new : Ring) (slot : ℕ) (m : Bool) (kept : IsKept config o a) (at : IsLandedOn config a flights rest f)
    (own : page_by config a.map p v ≡ Some at.page) (put : IsPut (a.ring p) new slot v) where
  abbrev ring' : ℕ → Ring
  ring' = at_number a.ring p new

  abbrev valid' : List Valid
  valid' = valid_at p v f ∷ a.valid

  abbrev old_row : ℕ → Row
  old_row = frame_row a.state a.page a.modify a.valid a.ring flights

  abbrev new_row : ℕ → Row
  new_row = frame_row (at_number a.state f state.Active) a.page (at_number a.modify f m) valid' ring' rest

  none : entries_at a.valid p v ≡ 0
  none = no_entries config o a f p v at.page kept at.holds at.shares own

  pub one_more : shares valid' f ≡ 1 + shares a.valid f
  one_more = count_cons_yes (λ (e : Valid). nat_eq e.frame f) (valid_at p v f) a.valid (nat_eq_refl f)

  pub others_share : (h : ℕ) → (f ≡ h → ⊥) → shares valid' h ≡ shares a.valid h
  others_share h apart = count_cons_no (λ (e : Valid). nat_eq e.frame h) (valid_at p v f) a.valid (ne_eqb f h apart)

  -- ---- the frames
  slot_is : (g : Page) → at.page ≡ g → slot_for ring' (Some g) ≡ page_slot g slot
  slot_is (Private q w) is =
      let same : Private q w ≡ Private (proc p) v = own_is config a.map p v (Private q w) (own ∙ ap Some is) refl in
      ap (λ (g : Page). slot_for ring' (Some g)) same ∙ slot_put a.ring p v new slot (fresh_slot v) put.within ((kept.entries p v).slots ∙ none) (nat_eq_refl v) put.slots
  slot_is (Shared s i) is = refl

  slot_there : (h : ℕ) → (f ≡ h → ⊥) → slot_for ring' (a.page h) ≡ slot_for a.ring (a.page h)
  slot_there h apart = slot_stays a.ring p new slot None (fresh_slot v) put.empty put.slots (a.page h)
      (λ w holds. (refl, ne_eqb v w (λ same. apart (own_frame config o a p v f h at.page kept own at.holds (holds ∙ ap (λ (n : ℕ). Some (Private (proc p) n)) (sym same))))))

  pins_there : (h : ℕ) → frame_pins valid' ring' h ≡ frame_pins a.valid a.ring h
  pins_there h = pins_entered a.valid a.ring p v f slot new put ((kept.entries p v).slots ∙ none) h

  row_here : (row : Row) → row ≡ old_row f → record row { state = state.Active; modify = m; refs = counted_references (row.shares + 1) 0 + uncounted row; shares = row.shares + 1; slot = page_slot at.page slot; flights = 0 } ≡ new_row f
  unfolding frame_row
  row_here row is =
      let more : shares a.valid f + 1 ≡ shares valid' f = omega (arith, one_more) in
      let over = over_pins (counted_references (shares a.valid f) (reads_on f flights + writes_on f flights)) (frame_pins a.valid a.ring f) ∙ sym (pins_there f) in
      λ i. record {
        state = sym (at_number_same a.state f state.Active) i;
        page = (is i).page;
        modify = sym (at_number_same a.modify f m) i;
        refs = (ap (λ (r : Row). counted_references (r.shares + 1) 0 + uncounted r) is ∙ (λ j. counted_references (more j) (sym at.none j) + over j)) i;
        shares = (ap (λ (r : Row). r.shares + 1) is ∙ more) i;
        slot = (sym (slot_is at.page refl) ∙ ap (slot_for ring') (sym at.holds)) i;
        flights = sym at.none i;
      }

  row_there : (h : ℕ) → (f ≡ h → ⊥) → new_row h ≡ old_row h
  unfolding frame_row
  row_there h apart = λ i. row_by (at_number_other a.state f state.Active h apart i) (a.page h) (at_number_other a.modify f m h apart i) (others_share h apart i) (at.there h apart i) (slot_there h apart i) (pins_there h i)

  pub read_in_frames : (pfns pfns' : Frames) → FramesFit old_row config.frames a.free a.modified pfns
      → pfns'.rows ≡ slice_set pfns.rows f (record (row_of pfns f) { state = state.Active; modify = m; refs = counted_references ((row_of pfns f).shares + 1) 0 + uncounted (row_of pfns f); shares = (row_of pfns f).shares + 1; slot = page_slot at.page slot; flights = 0 })
      → pfns'.free ≡ pfns.free → pfns'.modified ≡ pfns.modified → FramesFit new_row config.frames a.free a.modified pfns'
  read_in_frames pfns pfns' fit rows free modified =
      frames_set old_row new_row config.frames a.free a.free a.modified a.modified pfns pfns' f _ fit at.within rows (free ∙ fit.free_list) (modified ∙ fit.modified_list) (row_here (row_of pfns f) (fit.rows f)) row_there

  -- ---- the page's entry
  pub read_in_tables : (lies : Page → Option BlockId) → ((q w : ℕ) → (nat_eq p q && nat_eq v w) ≡ false → (g : Page) → g ≡ Private (proc q) w → lies g ≡ a.lies g) → (n : ℕ) (table table' : PageTables) (pte : Pte)
      → TablesFit (pte_of config a.map a.valid a.page a.lies) n table → pte_in table p v ≡ Some pte → table'.procs ≡ table.procs → ((q w : ℕ) → pte_in table' q w ≡ changed_at (pte_in table) p v (Some (record pte { place = place.Valid false (pfn f) })) q w)
      → TablesFit (pte_of config a.map valid' a.page lies) n table'
  read_in_tables lies stays n table table' pte fit read procs changed =
      let found = mapped_there config a.map p v at.page own in
      let old = pte_known config a.map a.valid a.page a.lies p v found.0 at.page found.1 found.2 None (find_none_from_count (is_entry p v) a.valid none) in
      let new = pte_valid config a.map valid' a.page lies p v found.0 at.page found.1 found.2 (valid_at p v f) (find_cons_yes (is_entry p v) (valid_at p v f) a.valid (and_from _ _ (nat_eq_refl p) (nat_eq_refl v))) in
      tables_set (pte_of config a.map a.valid a.page a.lies) (pte_of config a.map valid' a.page lies) n table table' p v _ fit procs changed
      (placed_at pte (found.0).prot _ (place.Valid false (pfn f)) (sym read ∙ (fit.each p v ∙ old)) ∙ sym new)
      (λ q w apart. pte_stays config a.map a.valid valid' a.page a.page a.lies lies q w (find_cons_no (is_entry q w) (valid_at p v f) a.valid apart)
      (λ g mapped private. (refl, stays q w apart g (own_is config a.map q w g mapped private))))
