-- A frame that holds a page, without a valid entry or a flight, is emptied: the frames, the page tables, the
-- global pages.
use Rattle.std.proofs.Common.{◌≡◌, ◌⊎◌, inl, inr, ℕ, ◌+◌, false, ◌&&◌, List, ◌∷◌, Option, Some, None, length, nat_eq, slice_set, slice_index_or, refl, sym, ap, ◌∙◌, subst, arith, length-set}
use Rattle.std.specs.Option.{option_map}
use Rattle.std.proofs.lemmas.Bool.{cases_eq, false≢true, true≢false}
use Rattle.std.proofs.lemmas.List.{get_or-set_same, get_or-set_other}
use Rattle.std.proofs.lemmas.Option.{none-some}
use Rattle.vm_types.specs.Configuration.{IsSectionPage}
use Rattle.vm_types.specs.PagePlaces.{changed_at}
use Rattle.vm_types.specs.declared.config.Config.{Config}
use Rattle.vm_types.specs.declared.config.Origin.{Origin}
use Rattle.vm_types.specs.declared.names.FrameState.TheVariants as state
use Rattle.vm_types.specs.declared.names.Page.{Page}
use Rattle.vm_types.specs.declared.names.Page.TheVariants.{Private, Shared}
use Rattle.vm_types.specs.declared.names.SecId.{SecId}
use Rattle.global_pages.specs.GlobalPages.{GlobalPages}
use Rattle.page_lists.proofs.Counts.{without-absent}
use Rattle.page_lists.specs.Lists.{count_of, without}
use Rattle.page_tables.specs.PageTables.{PageTables, pte_in}
use Rattle.pfn_database.specs.Frames.{Frames}
use Rattle.pfn_database.specs.Rows.{empty_row}
use Rattle.pte_forms.specs.declared.pte.Place.{Place}
use Rattle.pte_forms.specs.declared.pte.Pte.{Pte}
use Rattle.pager_laws.proofs.ComingKept.{idle_entry}
use Rattle.pager_model.specs.Around.{PastView}
use Rattle.pager_model.specs.Forget.{holder, holds_page}
use Rattle.pager_model.specs.Maps.{pfn, Mapped, is_private, page_behind, proc}
use Rattle.pager_model.specs.Lookups.{entry_of, is_entry, page_by, shares}
use Rattle.pager_model.specs.OfConfig.{HoldsRight}
use Rattle.pager_model.specs.Pager.{Pager}
use Rattle.pager_model.specs.Sets.{at_number}
use Rattle.pager_model.specs.Transfers.{reads_on, writes_on}
use Rattle.pager_rules.proofs.Basics.{at_number_other, at_number_same, find_none_from_count, same_from_equal}
use Rattle.pager_rules.proofs.Pages.{own_is}
use Rattle.pager_rules.proofs.Put.{page_apart}
use Rattle.pager_rules.specs.Kept.{IsKept}
use Rattle.pager_laws.proofs.Holders.{holder_elsewhere, holder_none, holder_there, holds_within}
use Rattle.pager_laws.proofs.SectionNumbers.{number_within, numbers_differ}
use Rattle.pager_laws.proofs.EntryPages.{mapped_there}
use Rattle.state_fits.specs.Changes.{released_in}
use Rattle.state_fits.specs.Entries.{TablesFit, origin_of, own_place, place_by, pte_of, resting_place, section_page_number}
use Rattle.state_fits.specs.Frames.{FramesFit, frame_row, row_by, slot_for}
use Rattle.state_fits.specs.Globals.{GlobalsFit, shares_held}
use Rattle.state_fits.proofs.FramePins.{no_pins}
use Rattle.state_fits.proofs.FrameRows.{row_is, row_stays}
use Rattle.state_fits.proofs.ShownEntries.{pte_stays}
use Rattle.state_fits.proofs.KnownEntries.{placed_at, pte_known}
use Rattle.state_fits.proofs.PartsSet.{frames_set, tables_same, tables_set}

abbrev number_of : Config → Page → ℕ
number_of config (Private p v) = 0
number_of config (Shared s i) = section_page_number config s.0 i

module _ (config : Config) (o : PastView) (a : Pager) (f : ℕ) (g : Page) (kept : IsKept config o a) (holds : a.page f ≡ Some g)
    (unshared : shares a.valid f ≡ 0) (still : reads_on f o.flights + writes_on f o.flights ≡ 0) where
  abbrev page' : ℕ → Option Page
  page' = at_number a.page f None

  pub frames_emptied : (old now : Frames) → count_of a.modified f ≡ 0 → FramesFit (frame_row a.state a.page a.modify a.valid a.ring o.flights) config.frames a.free a.modified old
      → now.rows ≡ slice_set old.rows f empty_row → now.free ≡ f ∷ without old.free f → now.modified ≡ without old.modified f
      → FramesFit (frame_row (at_number a.state f state.Free) page' (at_number a.modify f false) a.valid a.ring o.flights) config.frames (f ∷ without a.free f) a.modified now
  frames_emptied old now absent fit rows free modified =
      frames_set (frame_row a.state a.page a.modify a.valid a.ring o.flights) (frame_row (at_number a.state f state.Free) page' (at_number a.modify f false) a.valid a.ring o.flights) config.frames a.free (f ∷ without a.free f) a.modified a.modified old now f empty_row
      fit (holds_within config o a f g kept holds) rows
      (free ∙ ap (λ (xs : List ℕ). f ∷ without xs f) fit.free_list)
      (modified ∙ (ap (λ (xs : List ℕ). without xs f) fit.modified_list ∙ without-absent a.modified f absent))
      ((λ i. row_by (sym (at_number_same a.state f state.Free) i) (sym (at_number_same a.page f None) i) (sym (at_number_same a.modify f false) i) (sym unshared i) (sym still i) (slot_for a.ring (sym (at_number_same a.page f None) i)) (sym (no_pins a.valid a.ring f unshared) i))
      ∙ sym (row_is (at_number a.state f state.Free) page' (at_number a.modify f false) a.valid a.ring o.flights f))
      (λ h apart. row_stays a.state a.page a.modify a.valid a.ring o.flights (at_number a.state f state.Free) page' (at_number a.modify f false) a.valid a.ring h
      (at_number_other a.state f state.Free h apart) (at_number_other a.page f None h apart) (at_number_other a.modify f false h apart) refl (ap (slot_for a.ring) (at_number_other a.page f None h apart)) refl)

  -- no frame holds the page any more
  page_out : holder config page' g ≡ None
  page_out = holder_none config page' g (λ h is. none h is (cases_eq f h))
    where
      none : (h : ℕ) → page' h ≡ Some g → (f ≡ h) ⊎ (f ≡ h → ⊥) → ⊥
      none h is (inl same) = none-some g (sym (subst (λ (j : ℕ). page' j ≡ None) same (at_number_same a.page f None)) ∙ is)
      none h is (inr apart) = apart (kept.held_once f h g holds (sym (at_number_other a.page f None h apart) ∙ is))

  holder_stays : (h : Page) → (g ≡ h → ⊥) → holder config page' h ≡ holder config a.page h
  holder_stays h apart = holder_elsewhere config a.page f None h (ap (holds_page h) holds ∙ page_apart g h apart) refl

  -- ---- the page tables
  pub tables_rested : (p v : ℕ) (old now : PageTables) (pte : Pte) (b : Origin) → g ≡ Private (proc p) v → page_by config a.map p v ≡ Some g
      → TablesFit (pte_of config a.map a.valid a.page a.lies) (length config.procs) old → pte_in old p v ≡ Some pte → origin_of a.map p v ≡ Some b → now.procs ≡ old.procs
      → ((q w : ℕ) → pte_in now q w ≡ changed_at (pte_in old) p v (Some (record pte { place = resting_place config b (a.lies g) })) q w)
      → TablesFit (pte_of config a.map a.valid page' a.lies) (length config.procs) now
  tables_rested p v old now pte b private own fit read behind procs changed =
      tables_set (pte_of config a.map a.valid a.page a.lies) (pte_of config a.map a.valid page' a.lies) (length config.procs) old now p v (Some (record pte { place = resting_place config b (a.lies g) })) fit procs changed
      (placed_at pte (found.0).prot _ (resting_place config b (a.lies g)) was ∙ (ap (λ (x : Place). Some (record { prot = (found.0).prot; place = x })) rests ∙ sym now_known))
      (λ q w apart. pte_stays config a.map a.valid a.valid a.page page' a.lies a.lies q w refl (λ h is other. (holder_stays h (λ same. far q w apart (sym private ∙ (same ∙ own_is config a.map q w h is other))), refl)))
    where
      found : (m : Mapped) × (a.map p v ≡ Some m) × (page_behind config p v m.origin ≡ Private (proc p) v)
      found = mapped_there config a.map p v (Private (proc p) v) (own ∙ ap Some private)

      none : entry_of a.valid p v ≡ None
      none = find_none_from_count (is_entry p v) a.valid (idle_entry config a kept.held_once p v f g own holds unshared kept.valid)

      was : Some pte ≡ Some (record { prot = (found.0).prot; place = place_by config (Private (proc p) v) (found.0).origin None (holder config a.page (Private (proc p) v)) (a.lies (Private (proc p) v)) })
      was = sym read ∙ (fit.each p v ∙ pte_known config a.map a.valid a.page a.lies p v found.0 (Private (proc p) v) found.1 found.2 None none)

      now_known : pte_of config a.map a.valid page' a.lies p v ≡ Some (record { prot = (found.0).prot; place = own_place config (found.0).origin (holder config page' (Private (proc p) v)) (a.lies (Private (proc p) v)) })
      now_known = pte_known config a.map a.valid page' a.lies p v found.0 (Private (proc p) v) found.1 found.2 None none

      origin_is : b ≡ (found.0).origin
      origin_is = let same = sym behind ∙ ap (option_map (λ (m : Mapped). m.origin)) found.1 in cc

      rests : resting_place config b (a.lies g) ≡ own_place config (found.0).origin (holder config page' (Private (proc p) v)) (a.lies (Private (proc p) v))
      rests =
          ap (λ (x : Origin). resting_place config x (a.lies g)) origin_is
          ∙ (ap (λ (h : Page). resting_place config (found.0).origin (a.lies h)) private
          ∙ ap (λ (x : Option ℕ). own_place config (found.0).origin x (a.lies (Private (proc p) v))) (sym page_out ∙ ap (holder config page') private))

      far : (q w : ℕ) → (nat_eq p q && nat_eq v w) ≡ false → Private (proc p) v ≡ Private (proc q) w → ⊥
      far q w apart same = false≢true (sym apart ∙ same_from_equal (Private (proc p) v) (Private (proc q) w) same)

  pub tables_shared : (tables : PageTables) → is_private g ≡ false → TablesFit (pte_of config a.map a.valid a.page a.lies) (length config.procs) tables → TablesFit (pte_of config a.map a.valid page' a.lies) (length config.procs) tables
  tables_shared tables shared fit =
      tables_same (pte_of config a.map a.valid a.page a.lies) (pte_of config a.map a.valid page' a.lies) (length config.procs) tables fit
      (λ q w. pte_stays config a.map a.valid a.valid a.page page' a.lies a.lies q w refl (λ h is private. (holder_stays h (λ same. false≢true (sym shared ∙ (ap is_private same ∙ private))), refl)))

  -- ---- the global pages
  pub globals_released : (table : GlobalPages) → HoldsRight config a.page → GlobalsFit config a.page a.valid table → GlobalsFit config page' a.valid (released_in config g table)
  globals_released table right fit = by g refl
    where
      other_frame : (h : Page) → (g ≡ h → ⊥) → option_map pfn (holder config a.page h) ≡ option_map pfn (holder config page' h)
      other_frame h apart = ap (option_map pfn) (sym (holder_stays h apart))

      other_shares : (h : Page) → (g ≡ h → ⊥) → shares_held a.valid (holder config a.page h) ≡ shares_held a.valid (holder config page' h)
      other_shares h apart = ap (shares_held a.valid) (sym (holder_stays h apart))

      by : (h : Page) → g ≡ h → GlobalsFit config page' a.valid (released_in config h table)
      by (Private p v) is = record {
        count = fit.count;
        counts = fit.counts;
        frames = λ t j also. fit.frames t j also ∙ other_frame (Shared t j) (λ same. true≢false (ap is_private (sym is ∙ same)));
        shared = λ t j also. fit.shared t j also ∙ other_shares (Shared t j) (λ same. true≢false (ap is_private (sym is ∙ same)));
      }
      by (Shared s i) is = record {
        count = length-set table.frames (section_page_number config s.0 i) None ∙ fit.count;
        counts = fit.counts;
        frames = λ t j also. frame t j also (cases_eq (section_page_number config s.0 i) (section_page_number config t.0 j));
        shared = λ t j also. fit.shared t j also ∙ share t j also (cases_eq (section_page_number config s.0 i) (section_page_number config t.0 j));
      }
        where
          there : IsSectionPage config.sections s.0 i
          there = (right f (Shared s i) (holds ∙ ap Some is)).0

          far : (t : SecId) (j : ℕ) → (section_page_number config s.0 i ≡ section_page_number config t.0 j → ⊥) → g ≡ Shared t j → ⊥
          far t j apart same = apart (ap (number_of config) (sym is ∙ same))

          equal : (t : SecId) (j : ℕ) → IsSectionPage config.sections t.0 j → section_page_number config s.0 i ≡ section_page_number config t.0 j → g ≡ Shared t j
          equal t j also same = let parts = numbers_differ config s.0 t.0 i j there also same in is ∙ (λ k. Shared (record { 0 = parts.0 k }) (parts.1 k))

          frame : (t : SecId) (j : ℕ) → IsSectionPage config.sections t.0 j → (section_page_number config s.0 i ≡ section_page_number config t.0 j) ⊎ (section_page_number config s.0 i ≡ section_page_number config t.0 j → ⊥)
              → slice_index_or (slice_set table.frames (section_page_number config s.0 i) None) (section_page_number config t.0 j) None ≡ option_map pfn (holder config page' (Shared t j))
          frame t j also (inl same) =
              ap (λ (n : ℕ). slice_index_or (slice_set table.frames (section_page_number config s.0 i) None) n None) (sym same)
              ∙ (get_or-set_same table.frames (section_page_number config s.0 i) None None (let within = number_within config s.0 i there in omega (arith, within, fit.count))
              ∙ ap (option_map pfn) (sym page_out ∙ ap (holder config page') (equal t j also same)))
          frame t j also (inr apart) =
              get_or-set_other table.frames (section_page_number config s.0 i) (section_page_number config t.0 j) None None (λ e. apart (sym e)) ∙ (fit.frames t j also ∙ other_frame (Shared t j) (far t j apart))

          share : (t : SecId) (j : ℕ) → IsSectionPage config.sections t.0 j → (section_page_number config s.0 i ≡ section_page_number config t.0 j) ⊎ (section_page_number config s.0 i ≡ section_page_number config t.0 j → ⊥)
              → shares_held a.valid (holder config a.page (Shared t j)) ≡ shares_held a.valid (holder config page' (Shared t j))
          share t j also (inl same) =
              let is_g = equal t j also same in
              ap (shares_held a.valid) (ap (holder config a.page) (sym is_g) ∙ holder_there config o a g f kept holds) ∙ (unshared ∙ ap (shares_held a.valid) (sym page_out ∙ ap (holder config page') is_g))
          share t j also (inr apart) = other_shares (Shared t j) (far t j apart)
