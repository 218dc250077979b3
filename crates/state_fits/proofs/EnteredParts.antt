-- A page that a frame holds becomes valid: the frames, the page tables and the global pages.
use Rattle.std.proofs.Common.{◌≡◌, ℕ, ◌+◌, ◌<◌, Bool, false, ◌&&◌, List, ◌∷◌, Option, Some, None, length, nat_eq, slice_set, refl, sym, ap, ◌∙◌, subst}
use Rattle.std.proofs.lemmas.Bool.{and_from, ne_eqb}
use Rattle.vm_types.specs.PagePlaces.{changed_at}
use Rattle.vm_types.specs.Ring.{Ring, fresh_slot}
use Rattle.vm_types.specs.declared.config.Config.{Config}
use Rattle.vm_types.specs.declared.names.BlockId.{BlockId}
use Rattle.vm_types.specs.declared.names.FrameState.TheVariants as state
use Rattle.vm_types.specs.declared.names.Page.{Page}
use Rattle.vm_types.specs.declared.names.Page.TheVariants.{Private, Shared}
use Rattle.global_pages.specs.GlobalPages.{GlobalPages}
use Rattle.page_tables.specs.PageTables.{PageTables, pte_in}
use Rattle.pfn_database.specs.Frames.{Frames, row_of}
use Rattle.pfn_database.specs.Rows.{counted_references, uncounted}
use Rattle.pfn_database.specs.declared.row.Row.{Row}
use Rattle.pte_forms.specs.declared.pte.Place.TheVariants as place
use Rattle.pte_forms.specs.declared.pte.Pte.{Pte}
use Rattle.pager_model.specs.Around.{PastView}
use Rattle.pager_model.specs.Changes.{valid_at}
use Rattle.pager_model.specs.Flights.{Flight}
use Rattle.pager_model.specs.Maps.{pfn, proc}
use Rattle.pager_model.specs.Lookups.{entries_at, is_entry, page_by}
use Rattle.pager_model.specs.OfConfig.{HoldsRight}
use Rattle.pager_model.specs.Pager.{Pager, Valid}
use Rattle.pager_model.specs.Sets.{at_number}
use Rattle.pager_rules.proofs.Basics.{at_number_other, at_number_same, count_cons_no, count_cons_yes, find_cons_no, find_cons_yes, find_none_from_count, nat_eq_refl}
use Rattle.pager_rules.proofs.Pages.{own_is}
use Rattle.pager_rules.specs.Kept.{IsKept}
use Rattle.pager_laws.proofs.EntryPages.{mapped_there, own_frame}
use Rattle.state_fits.specs.Changes.{page_slot, shared_in}
use Rattle.state_fits.specs.Entries.{TablesFit, pte_of}
use Rattle.state_fits.specs.Frames.{FramesFit, frame_row, slot_for}
use Rattle.state_fits.specs.Globals.{GlobalsFit}
use Rattle.state_fits.proofs.FramePins.{pins_entered}
use Rattle.state_fits.proofs.EnteredFrame.{IsPut, entered_here, entered_there}
use Rattle.state_fits.proofs.GlobalShares.{globals_shared}
use Rattle.state_fits.proofs.ShownEntries.{pte_stays}
use Rattle.state_fits.proofs.KnownEntries.{placed_at, pte_known, pte_valid}
use Rattle.state_fits.proofs.PartsSet.{frames_set, tables_set}
use Rattle.state_fits.proofs.RingSlots.{slot_put, slot_stays}

-- the row of a frame for which one valid entry more is there
abbrev pub entered_row : Page → Bool → ℕ → Row → Row
entered_row g modify slot row = record row {
  state = state.Active;
  page = Some g;
  modify = modify;
  refs = counted_references (row.shares + 1) row.flights + uncounted row;
  shares = row.shares + 1;
  slot = slot;
}

-- a page that frame f holds enters a slot of p's ring, at page number v
module _ (config : Config) (o : PastView) (a : Pager) (p v f slot : ℕ) (g : Page) (new : Ring) (kept : IsKept config o a) (own : page_by config a.map p v ≡ Some g) (holds : a.page f ≡ Some g)
    (not_valid : entries_at a.valid p v ≡ 0) (put : IsPut (a.ring p) new slot v) where
  abbrev more : List Valid
  more = valid_at p v f ∷ a.valid

  slot_here : slot_for (at_number a.ring p new) (Some g) ≡ page_slot g slot
  slot_here = by g own
    where
      by : (h : Page) → page_by config a.map p v ≡ Some h → slot_for (at_number a.ring p new) (Some h) ≡ page_slot h slot
      by (Shared s i) is = refl
      by (Private q w) is =
          ap (λ (h : Page). slot_for (at_number a.ring p new) (Some h)) (own_is config a.map p v (Private q w) is refl)
          ∙ slot_put a.ring p v new slot (fresh_slot v) put.within ((kept.entries p v).slots ∙ not_valid) (nat_eq_refl v) put.slots

  slot_there : (h : ℕ) → (f ≡ h → ⊥) → slot_for (at_number a.ring p new) (a.page h) ≡ slot_for a.ring (a.page h)
  slot_there h apart = slot_stays a.ring p new slot None (fresh_slot v) put.empty put.slots (a.page h)
      (λ w at. (refl, ne_eqb v w (λ same. apart (own_frame config o a p v f h g kept own holds (at ∙ ap (λ (u : ℕ). Some (Private (proc p) u)) (sym same))))))

  pub frames_entered : (flights : List Flight) (modify' : ℕ → Bool) (m : Bool) (free' modified' : List ℕ) (old now : Frames) → modify' f ≡ m → ((h : ℕ) → (f ≡ h → ⊥) → modify' h ≡ a.modify h)
      → FramesFit (frame_row a.state a.page a.modify a.valid a.ring flights) config.frames a.free a.modified old → f < config.frames
      → now.rows ≡ slice_set old.rows f (entered_row g m (page_slot g slot) (row_of old f)) → now.free ≡ free' → now.modified ≡ modified'
      → FramesFit (frame_row (at_number a.state f state.Active) a.page modify' more (at_number a.ring p new) flights) config.frames free' modified' now
  frames_entered flights modify' m free' modified' old now marked unmarked fit below rows free modified =
      frames_set (frame_row a.state a.page a.modify a.valid a.ring flights) (frame_row (at_number a.state f state.Active) a.page modify' more (at_number a.ring p new) flights) config.frames a.free free' a.modified modified' old now f
      (entered_row g m (page_slot g slot) (row_of old f)) fit below rows free modified
      (entered_here a.state (at_number a.state f state.Active) a.page a.page a.modify modify' a.valid a.ring (at_number a.ring p new) flights p v f (row_of old f) state.Active g m (page_slot g slot) (fit.rows f) (at_number_same a.state f state.Active) holds marked slot_here (pins_entered a.valid a.ring p v f slot new put ((kept.entries p v).slots ∙ not_valid) f))
      (λ h apart. entered_there a.state (at_number a.state f state.Active) a.page a.page a.modify modify' a.valid a.ring (at_number a.ring p new) flights p v f h apart (at_number_other a.state f state.Active h apart) refl (unmarked h apart) (slot_there h apart) (pins_entered a.valid a.ring p v f slot new put ((kept.entries p v).slots ∙ not_valid) h))

  pub tables_entered : (lies' : Page → Option BlockId) (old now : PageTables) (pte : Pte) → ((q w : ℕ) → (nat_eq p q && nat_eq v w) ≡ false → lies' (Private (proc q) w) ≡ a.lies (Private (proc q) w))
      → TablesFit (pte_of config a.map a.valid a.page a.lies) (length config.procs) old → pte_in old p v ≡ Some pte → now.procs ≡ old.procs
      → ((q w : ℕ) → pte_in now q w ≡ changed_at (pte_in old) p v (Some (record pte { place = place.Valid false (pfn f) })) q w)
      → TablesFit (pte_of config a.map more a.page lies') (length config.procs) now
  tables_entered lies' old now pte elsewhere fit read procs changed =
      let found = mapped_there config a.map p v g own in
      let was = sym read ∙ (fit.each p v ∙ pte_known config a.map a.valid a.page a.lies p v found.0 g found.1 found.2 None (find_none_from_count (is_entry p v) a.valid not_valid)) in
      let first = find_cons_yes (is_entry p v) (valid_at p v f) a.valid (and_from _ _ (nat_eq_refl p) (nat_eq_refl v)) in
      tables_set (pte_of config a.map a.valid a.page a.lies) (pte_of config a.map more a.page lies') (length config.procs) old now p v (Some (record pte { place = place.Valid false (pfn f) })) fit procs changed
      (placed_at pte (found.0).prot _ (place.Valid false (pfn f)) was ∙ sym (pte_valid config a.map more a.page lies' p v found.0 g found.1 found.2 (valid_at p v f) first))
      (λ q w apart. pte_stays config a.map a.valid more a.page a.page a.lies lies' q w (find_cons_no (is_entry q w) (valid_at p v f) a.valid apart)
      (λ h is private. (refl, subst (λ (y : Page). lies' y ≡ a.lies y) (sym (own_is config a.map q w h is private)) (elsewhere q w apart))))

  pub globals_entered : (table : GlobalPages) → HoldsRight config a.page → GlobalsFit config a.page a.valid table → GlobalsFit config a.page more (shared_in config g table)
  globals_entered table right fit = globals_shared config o a more f g table kept right holds
      (λ h apart. count_cons_no (λ (e : Valid). nat_eq e.frame h) (valid_at p v f) a.valid (ne_eqb f h apart))
      (count_cons_yes (λ (e : Valid). nat_eq e.frame f) (valid_at p v f) a.valid (nat_eq_refl f)) fit
