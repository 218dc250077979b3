-- A read begins into an empty frame: the frame's row, the page's entry, its global page, and all parts.
use Rattle.std.proofs.Common.{◌≡◌, ℕ, ◌+◌, Bool, true, false, not, List, ◌∷◌, Option, Some, None, slice_set, refl, sym, ap, ap₂, ◌∙◌, subst, arith}
use Rattle.std.specs.Prelude.{◌&&◌}
use Rattle.std.specs.Option.{option_map}
use Rattle.std.proofs.lemmas.Bool.{and_from, and_left, ne_eqb}
use Rattle.vm_types.specs.Configuration.{IsSectionPage}
use Rattle.vm_types.specs.Same.{same_page}
use Rattle.vm_types.specs.declared.config.Config.{Config}
use Rattle.vm_types.specs.declared.names.BlockId.{BlockId}
use Rattle.vm_types.specs.declared.names.FrameState.TheVariants as state
use Rattle.vm_types.specs.declared.names.Page.{Page}
use Rattle.vm_types.specs.declared.names.Page.TheVariants.{Private, Shared}
use Rattle.vm_types.specs.declared.names.Proc.{Proc}
use Rattle.vm_types.specs.declared.names.SecId.{SecId}
use Rattle.vm_journal.specs.declared.entry.Entry.{Entry}
use Rattle.page_lists.specs.Lists.{without}
use Rattle.page_tables.specs.PageTables.{PageTables, pte_in}
use Rattle.global_pages.specs.GlobalPages.{GlobalPages}
use Rattle.pte_forms.specs.declared.pte.Place.TheVariants as place
use Rattle.pfn_database.specs.Frames.{Frames, row_of}
use Rattle.pfn_database.specs.Rows.{counted_references, uncounted}
use Rattle.pfn_database.specs.declared.row.Row.{Row}
use Rattle.pager_model.specs.Around.{past_view}
use Rattle.pager_model.specs.Flights.{Flight, is_reading, open_flights}
use Rattle.pager_model.specs.Forget.{holder}
use Rattle.pager_model.specs.Maps.{pfn, Map, Mapped, is_private, page_behind, proc}
use Rattle.pager_model.specs.Lookups.{IsHead, entries_at, entry_of, has_vpn, own_page, shares}
use Rattle.pager_model.specs.Pager.{Pager, Valid}
use Rattle.pager_model.specs.Sets.{at_number}
use Rattle.pager_model.specs.Transfers.{is_read_on, is_write_on, reads_on, writes_on}
use Rattle.pager_rules.proofs.Basics.{at_number_other, at_number_same, count_cons_no, count_cons_yes, find_none_from_count, nat_eq_refl}
use Rattle.pager_rules.proofs.Pages.{own_is}
use Rattle.pager_rules.proofs.Put.{head_counts, no_entry}
use Rattle.pager_rules.specs.Kept.{IsKept}
use Rattle.pager_laws.proofs.Holders.{IsFreeRow, free_is}
use Rattle.pager_laws.proofs.EntryPages.{mapped_there}
use Rattle.state_fits.specs.Entries.{TablesFit, place_away, pte_at, pte_of}
use Rattle.state_fits.specs.Frames.{FramesFit, frame_pins, frame_row, or_zero, row_by, slot_for}
use Rattle.state_fits.specs.Globals.{GlobalsFit}
use Rattle.state_fits.specs.ReadBegins.{entry_held, held_in, with_place}
use Rattle.state_fits.proofs.FrameRows.{over_pins}
use Rattle.state_fits.proofs.ShownEntries.{pte_stays}
use Rattle.state_fits.proofs.PartsSet.{frames_set, tables_set}
use Rattle.state_fits.proofs.RingSlots.{absent}
use Rattle.state_fits.proofs.HeldGlobals.{globals_held, holder_stays}

-- the entry of a mapped page that isn't valid
pub pte_away : (config : Config) (map : Map) (valid : List Valid) (page : ℕ → Option Page) (lies : Page → Option BlockId) (p v : ℕ) (m : Mapped) (g : Page) → map p v ≡ Some m → page_behind config p v m.origin ≡ g → entry_of valid p v ≡ None
    → pte_of config map valid page lies p v ≡ Some (record { prot = m.prot; place = place_away config g m.origin (holder config page g) (lies g) })
unfolding pte_of
pte_away config map valid page lies p v m g mapped behind none =
    ap (λ (o : Option Mapped). pte_at config p v (holder config page) lies (entry_of valid p v) o) mapped
    ∙ (ap (λ (o : Option Valid). pte_at config p v (holder config page) lies o (Some m)) none
    ∙ ap (λ (h : Page). Some (record { prot = m.prot; place = place_away config h m.origin (holder config page h) (lies h) })) behind)

module _ (config : Config) (past : List Entry) (a : Pager) (y : Flight) (x : Page) (kept : IsKept config (past_view past) a)
    (head : IsHead a.free y.frame) (empty : a.page y.frame ≡ None) (out : (h : ℕ) → a.page h ≡ Some x → ⊥)
    (reads : is_reading y.direction ≡ true) (own : is_private x ≡ true → own_page config a.map x ≡ Some x) where
  abbrev f : ℕ
  f = y.frame

  abbrev flights : List Flight
  flights = open_flights past

  abbrev page' : ℕ → Option Page
  page' = at_number a.page f (Some x)

  abbrev old_row : ℕ → Row
  old_row = frame_row a.state a.page a.modify a.valid a.ring flights

  abbrev new_row : ℕ → Row
  new_row = frame_row (at_number a.state f state.Reading) page' a.modify a.valid a.ring (y ∷ flights)

  pub free_row : IsFreeRow config a flights f
  free_row = free_is config past a f kept (head_counts a.free f head)

  -- ---- the frame
  none : (p : Proc) (v : ℕ) → x ≡ Private p v → entries_at a.valid p.0 v ≡ 0
  none p v is = no_entry config a.map a.page a.valid p.0 v x (subst (λ (g : Page). own_page config a.map g ≡ Some x) is (own (ap is_private is))) out kept.valid

  slot_is : (g : Page) → x ≡ g → slot_for a.ring (Some g) ≡ 0
  slot_is (Private p v) is = ap or_zero (absent (has_vpn v) (a.ring p.0).slots ((kept.entries p.0 v).slots ∙ none p v is))
  slot_is (Shared s i) is = refl

  one_flight : reads_on f (y ∷ flights) + writes_on f (y ∷ flights) ≡ 1
  one_flight =
      omega (arith, free_row.still, count_cons_yes (is_read_on f) y flights (and_from _ _ (nat_eq_refl f) reads), count_cons_no (is_write_on f) y flights (and_right _ (ap not reads)))
    where
      and_right : (b : Bool) {c : Bool} → c ≡ false → (b && c) ≡ false
      and_right true e = e
      and_right false e = refl

  flights_there : (g : ℕ) → (f ≡ g → ⊥) → reads_on g (y ∷ flights) + writes_on g (y ∷ flights) ≡ reads_on g flights + writes_on g flights
  flights_there g apart = ap₂ (λ (m n : ℕ). m + n) (count_cons_no (is_read_on g) y flights (and_left _ _ (ne_eqb f g apart))) (count_cons_no (is_write_on g) y flights (and_left _ _ (ne_eqb f g apart)))

  row_here : (row : Row) → row ≡ old_row f → record row { state = state.Reading; page = Some x; modify = false; refs = counted_references row.shares 1 + uncounted row; flights = 1 } ≡ new_row f
  unfolding frame_row
  row_here row is = λ i. record {
    state = sym (at_number_same a.state f state.Reading) i;
    page = sym (at_number_same a.page f (Some x)) i;
    modify = sym free_row.modify i;
    refs = (ap (λ (r : Row). counted_references r.shares 1 + uncounted r) is ∙ (λ j. counted_references (shares a.valid f) (sym one_flight j) + over_pins (counted_references (shares a.valid f) (reads_on f flights + writes_on f flights)) (frame_pins a.valid a.ring f) j)) i;
    shares = (is i).shares;
    slot = (ap (λ (r : Row). r.slot) is ∙ (ap (slot_for a.ring) empty ∙ (sym (slot_is x refl) ∙ ap (slot_for a.ring) (sym (at_number_same a.page f (Some x)))))) i;
    flights = sym one_flight i;
  }

  row_there : (g : ℕ) → (f ≡ g → ⊥) → new_row g ≡ old_row g
  unfolding frame_row
  row_there g apart = λ i. row_by (at_number_other a.state f state.Reading g apart i) (at_number_other a.page f (Some x) g apart i) (a.modify g) (shares a.valid g) (flights_there g apart i) (slot_for a.ring (at_number_other a.page f (Some x) g apart i)) (frame_pins a.valid a.ring g)

  pub begun_frames : (pfns pfns' : Frames) → FramesFit old_row config.frames a.free a.modified pfns
      → pfns'.rows ≡ slice_set pfns.rows f (record (row_of pfns f) { state = state.Reading; page = Some x; modify = false; refs = counted_references (row_of pfns f).shares 1 + uncounted (row_of pfns f); flights = 1 })
      → pfns'.free ≡ without pfns.free f → pfns'.modified ≡ pfns.modified → FramesFit new_row config.frames (without a.free f) a.modified pfns'
  begun_frames pfns pfns' fit rows free modified =
      frames_set old_row new_row config.frames a.free (without a.free f) a.modified a.modified pfns pfns' f _ fit free_row.within rows
      (free ∙ ap (λ (xs : List ℕ). without xs f) fit.free_list) (modified ∙ fit.modified_list) (row_here (row_of pfns f) (fit.rows f)) row_there

  -- ---- the page's entry
  entry_there : (q w : ℕ) → same_page x (Private (proc q) w) ≡ false → pte_of config a.map a.valid page' a.lies q w ≡ pte_of config a.map a.valid a.page a.lies q w
  entry_there q w apart = pte_stays config a.map a.valid a.valid a.page page' a.lies a.lies q w refl
      (λ h mapped private. (holder_stays config a f x empty out h (ap (same_page x) (own_is config a.map q w h mapped private) ∙ apart), refl))

  pub begun_tables : (held : holder config page' x ≡ Some f) (n : ℕ) (table table' : PageTables) → TablesFit (pte_of config a.map a.valid a.page a.lies) n table → table'.procs ≡ table.procs
      → ((q w : ℕ) → pte_in table' q w ≡ entry_held x f (pte_in table) q w) → TablesFit (pte_of config a.map a.valid page' a.lies) n table'
  begun_tables held n table table' fit procs changed = by x refl changed
    where
      by : (g : Page) → x ≡ g → ((q w : ℕ) → pte_in table' q w ≡ entry_held g f (pte_in table) q w) → TablesFit (pte_of config a.map a.valid page' a.lies) n table'
      by (Private p v) is changed =
          let found = mapped_there config a.map p.0 v (Private p v) (subst (λ (g : Page). own_page config a.map g ≡ Some g) is (own (ap is_private is))) in
          let invalid : entry_of a.valid p.0 v ≡ None = find_none_from_count _ a.valid (none p v is) in
          let old = pte_away config a.map a.valid a.page a.lies p.0 v found.0 (Private p v) found.1 found.2 invalid in
          let new = pte_away config a.map a.valid page' a.lies p.0 v found.0 (Private p v) found.1 found.2 invalid in
          tables_set (pte_of config a.map a.valid a.page a.lies) (pte_of config a.map a.valid page' a.lies) n table table' p.0 v _ fit procs changed
          (ap (option_map (with_place (place.Transition (pfn f)))) (fit.each p.0 v ∙ old)
          ∙ sym (new ∙ ap (λ (o : Option ℕ). Some (record { prot = (found.0).prot; place = place_away config (Private p v) (found.0).origin o (a.lies (Private p v)) })) (subst (λ (g : Page). holder config page' g ≡ Some f) is held)))
          (λ q w apart. entry_there q w (ap (λ (g : Page). same_page g (Private (proc q) w)) is ∙ apart))
      by (Shared s i) is changed =
          record { procs = procs ∙ fit.procs; each = λ q w. changed q w ∙ (fit.each q w ∙ sym (entry_there q w (ap (λ (g : Page). same_page g (Private (proc q) w)) is))) }

  -- ---- its global page
  pub begun_globals : (held : holder config page' x ≡ Some f) (section : (s : SecId) (i : ℕ) → x ≡ Shared s i → IsSectionPage config.sections s.0 i) (table : GlobalPages)
      → GlobalsFit config a.page a.valid table → GlobalsFit config page' a.valid (held_in config x f table)
  begun_globals held section table fit = globals_held config a f x empty out free_row.shares held section table fit
