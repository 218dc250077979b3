-- ZERO: a demand zero page gets its first frame.
use Rattle.std.proofs.Common.{◌≡◌, ℕ, ◌+◌, Bool, true, false, List, ◌∷◌, Option, Some, None, length, nat_eq, count_by, slice_get, slice_set, slice_index_or, refl, sym, ap, ◌∙◌, arith, subst}
use Rattle.std.specs.Prelude.{◌&&◌, if◌then◌else◌}
use Rattle.std.proofs.lemmas.Bool.{and_from, ne_eqb}
use Rattle.std.proofs.lemmas.Option.{none-some}
use Rattle.vm_types.specs.Configuration.{IsSectionPage, IsWellFormed}
use Rattle.vm_types.specs.PagePlaces.{changed_at}
use Rattle.vm_types.specs.Ring.{Ring, choose, fresh_slot}
use Rattle.vm_types.specs.declared.ring_choice.Choice.TheVariants.{Empty}
use Rattle.vm_types.specs.Same.{same_page}
use Rattle.vm_types.specs.declared.config.Config.{Config}
use Rattle.vm_types.specs.declared.config.Origin.{Origin}
use Rattle.vm_types.specs.declared.config.Origin.TheVariants as origin
use Rattle.vm_types.specs.declared.names.Addr.{Addr}
use Rattle.vm_types.specs.declared.names.FrameState.TheVariants as state
use Rattle.vm_types.specs.declared.names.Page.{Page}
use Rattle.vm_types.specs.declared.names.Page.TheVariants.{Private, Shared}
use Rattle.vm_types.specs.declared.names.Pfn.{Pfn}
use Rattle.vm_types.specs.declared.names.SecId.{SecId}
use Rattle.vm_types.specs.declared.names.Seat.{Seat}
use Rattle.vm_journal.specs.declared.entry.Entry.{Entry}
use Rattle.vm_journal.specs.declared.entry.What.TheVariants as what
use Rattle.page_lists.specs.Lists.{without}
use Rattle.page_tables.specs.PageTables.{PageTables, pte_in}
use Rattle.pte_forms.specs.declared.pte.Place.TheVariants as place
use Rattle.pte_forms.specs.declared.pte.Pte.{Pte}
use Rattle.pfn_database.specs.Frames.{Frames, row_of}
use Rattle.pfn_database.specs.Rows.{counted_references, uncounted}
use Rattle.pfn_database.specs.declared.row.Row.{Row}
use Rattle.pager_model.specs.Around.{past_view, process_view}
use Rattle.pager_model.specs.Changes.{valid_at}
use Rattle.pager_model.specs.Flights.{Flight, open_flights}
use Rattle.pager_model.specs.Forget.{holder}
use Rattle.pager_laws.proofs.OfConfigKept.{page_right}
use Rattle.pager_laws.proofs.StepKept.{step_kept}
use Rattle.global_pages.specs.GlobalPages.{GlobalPages, count_of}
use Rattle.pager_model.specs.Lookups.{shares, entries_at, entry_of, has_vpn, is_entry, page_at, page_by, count_page}
use Rattle.pager_model.specs.Maps.{Mapped, is_paged, page_behind, page_number, proc, shared_of}
use Rattle.pager_model.specs.OfConfig.{IsOfConfig}
use Rattle.pager_model.specs.Pager.{Pager, Valid}
use Rattle.pager_model.specs.Ring.{placed}
use Rattle.pager_model.specs.Sets.{at_number}
use Rattle.pager_model.specs.Step.{after, IsLegal}
use Rattle.pager_model.specs.Zero.{IsDemandZero, is_zero_origin, zeroed_page}
use Rattle.pager_rules.proofs.Basics.{at_number_other, at_number_same, count_cons_no, count_cons_yes, find_cons_no, find_cons_yes, nat_eq_refl}
use Rattle.pager_rules.proofs.Pages.{own_is}
use Rattle.pager_rules.proofs.Put.{head_counts, no_entry}
use Rattle.pager_rules.proofs.Turns.{no_reuse}
use Rattle.pager_rules.specs.Kept.{IsKept}
use Rattle.state_parts.specs.ChargedTable.{ChargedTable, IsTableSet}
use Rattle.state_parts.specs.declared.process_row.ProcessRow.{ProcessRow}
use Rattle.pager_laws.proofs.Holders.{holder_there, IsFreeRow, holder_holds, free_is, not_modified, without_absent}
use Rattle.state_fits.specs.Entries.{TablesFit, pte_at, pte_of, section_page_number}
use Rattle.state_fits.specs.Frames.{FramesFit, frame_row, row_by, slot_for}
use Rattle.state_fits.specs.Globals.{GlobalsFit, shares_held}
use Rattle.state_fits.specs.Pages.{PagesFit, charged_row}
use Rattle.state_fits.specs.ReadBegins.{held_in}
use Rattle.state_fits.specs.Changes.{page_slot, shared_in}
use Rattle.state_fits.specs.Parts.{Parts}
use Rattle.state_fits.specs.PartsFit.{PartsFit}
use Rattle.state_fits.specs.Processes.{ProcessesFit, process_row}
use Rattle.state_fits.proofs.ChargedRows.{row_beside, row_fresh}
use Rattle.state_fits.proofs.FramePins.{no_pins, pins_entered}
use Rattle.state_fits.proofs.EnteredFrame.{IsPut, entered_here, entered_there, put_there}
use Rattle.state_fits.proofs.GlobalShares.{globals_counted}
use Rattle.state_fits.proofs.HeldGlobals.{globals_held, holder_stays}
use Rattle.state_fits.proofs.ShownEntries.{code_kept, globals_same, pte_stays}
use Rattle.state_fits.proofs.PartsSet.{frames_set, pages_set, processes_set, tables_set}
use Rattle.state_fits.proofs.RingSlots.{slot_put, slot_stays}
use Rattle.state_fits.proofs.SimpleParts.{none_failed, read_process}

module _ (config : Config) (past : List Entry) (a : Pager) (seat : Seat) (address : Addr) (f : Pfn) (formed : IsWellFormed config) (kept : IsKept config (past_view past) a) (right : IsOfConfig config a)
    (legal : IsLegal config past a (record { seat = seat; what = what.Zero address f })) (parts : Parts) (fit : PartsFit config past a parts) where
  abbrev e : Entry
  e = record { seat = seat; what = what.Zero address f }

  abbrev p : ℕ
  p = seat.0

  abbrev v : ℕ
  v = page_number address.0

  -- a private page, or one of a section in the page file
  abbrev g : Page
  g = zeroed_page config p v (a.map p v)

  abbrev flights : List Flight
  flights = open_flights past

  abbrev ring' : ℕ → Ring
  ring' = at_number a.ring p (placed (a.ring p) (a.limit p) v)

  abbrev old_row : ℕ → Row
  old_row = frame_row a.state a.page a.modify a.valid a.ring flights

  -- ---- facts
  there : (o : Option Mapped) → IsDemandZero config o → (m : Mapped) × (o ≡ Some m)
  there None demand = absurd demand
  there (Some m) demand = (m, refl)

  pub mapped : (m : Mapped) × (a.map p v ≡ Some m)
  mapped = there (a.map p v) legal.row.demand_zero

  pub own : page_by config a.map p v ≡ Some g
  own = by (a.map p v) legal.row.demand_zero
    where
      by : (o : Option Mapped) → IsDemandZero config o → page_at config p v o ≡ Some (zeroed_page config p v o)
      by None demand = absurd demand
      by (Some m) demand = refl

  pub paged : is_paged config g ≡ true
  paged = by (a.map p v) legal.row.demand_zero
    where
      behind : (o : Origin) → is_zero_origin config o ≡ true → is_paged config (page_behind config p v o) ≡ true
      behind origin.Zero is = refl
      behind (origin.Section s i) is = go (shared_of (slice_get config.sections s.0))
        where
          go : (b : Bool) → is_paged config (if b then Shared s i else Private (proc p) v) ≡ true
          go true = is
          go false = refl

      by : (o : Option Mapped) → IsDemandZero config o → is_paged config (zeroed_page config p v o) ≡ true
      by None demand = refl
      by (Some m) demand = behind m.origin demand

  not_charged : count_page a.charged g ≡ 0
  not_charged = legal.row.not_charged

  pub unheld : (h : ℕ) → a.page h ≡ Some g → ⊥
  unheld h holds = let some = kept.held_charged h g paged holds in absurd (omega (arith, not_charged, some))

  -- nor is a page of its own there held, if the page is shared
  unheld_own : (h : ℕ) → a.page h ≡ Some (Private (proc p) v) → ⊥
  unheld_own h holds =
      let charged = kept.held_charged h (Private (proc p) v) refl holds in
      let both : Some g ≡ Some (Private (proc p) v) = sym own ∙ (kept.pages (Private (proc p) v)).mapped charged refl in
      let same : g ≡ Private (proc p) v = cc in
      unheld h (holds ∙ ap Some (sym same))

  -- a page of another number is another page
  far : (q w : ℕ) → (nat_eq p q && nat_eq v w) ≡ false → same_page g (Private (proc q) w) ≡ false
  far q w apart = by g own
    where
      by : (h : Page) → page_by config a.map p v ≡ Some h → same_page h (Private (proc q) w) ≡ false
      by (Shared s i) is = refl
      by (Private r u) is = ap (λ (h : Page). same_page h (Private (proc q) w)) (own_is config a.map p v (Private r u) is refl) ∙ apart

  pub head : IsFreeRow config a flights f.0
  head = free_is config past a f.0 kept (head_counts a.free f.0 legal.row.frame.head)

  -- what the frame's row is
  pub zero_row : row_of parts.frames f.0 ≡ row_by state.Free None false 0 0 0 0
  unfolding frame_row
  zero_row =
      fit.frames.rows f.0 ∙ (λ i. row_by (head.state i) (legal.row.frame.empty i) (head.modify i) (head.shares i) (head.still i) (slot_for a.ring (legal.row.frame.empty i)) (no_pins a.valid a.ring f.0 head.shares i))

  -- ---- the ring
  put : (slot : ℕ) → choose (a.ring p) (a.limit p) ≡ Empty slot → IsPut (a.ring p) (placed (a.ring p) (a.limit p) v) slot v
  put slot chosen = put_there (process_view config a p) slot v (kept.processes p) legal.row.below_limit chosen

  none : entries_at a.valid p v ≡ 0
  none = no_entry config a.map a.page a.valid p v g own unheld kept.valid

  no_slot : count_by (has_vpn v) (a.ring p).slots ≡ 0
  no_slot = (kept.entries p v).slots ∙ none

  slot_here : (slot : ℕ) → choose (a.ring p) (a.limit p) ≡ Empty slot → (h : Page) → page_by config a.map p v ≡ Some h → slot_for ring' (Some h) ≡ page_slot h slot
  slot_here slot chosen (Shared s i) is = refl
  slot_here slot chosen (Private q w) is =
      let at = put slot chosen in
      ap (λ (h : Page). slot_for ring' (Some h)) (own_is config a.map p v (Private q w) is refl)
      ∙ slot_put a.ring p v (placed (a.ring p) (a.limit p) v) slot (fresh_slot v) at.within no_slot (nat_eq_refl v) at.slots

  -- ---- frames
  frames : (frames' : Frames) (slot : ℕ) → choose (a.ring p) (a.limit p) ≡ Empty slot
      → frames'.rows ≡ slice_set parts.frames.rows f.0 (record (row_of parts.frames f.0) { state = state.Active; page = Some g; modify = true; refs = counted_references ((row_of parts.frames f.0).shares + 1) (row_of parts.frames f.0).flights + uncounted (row_of parts.frames f.0); shares = (row_of parts.frames f.0).shares + 1; slot = page_slot g slot })
      → frames'.free ≡ without parts.frames.free f.0 → frames'.modified ≡ without parts.frames.modified f.0
      → FramesFit (frame_row (at_number a.state f.0 state.Active) (at_number a.page f.0 (Some g)) (at_number a.modify f.0 true) (valid_at p v f.0 ∷ a.valid) ring' flights) config.frames (without a.free f.0) a.modified frames'
  frames frames' slot chosen rows free modified =
      let at = put slot chosen in
      frames_set old_row (frame_row (at_number a.state f.0 state.Active) (at_number a.page f.0 (Some g)) (at_number a.modify f.0 true) (valid_at p v f.0 ∷ a.valid) ring' flights)
      config.frames a.free (without a.free f.0) a.modified a.modified parts.frames frames' f.0 _ fit.frames head.within rows
      (free ∙ ap (λ (xs : List ℕ). without xs f.0) fit.frames.free_list)
      (modified ∙ (ap (λ (xs : List ℕ). without xs f.0) fit.frames.modified_list ∙ without_absent a.modified f.0 (not_modified config past a f.0 kept head.state)))
      (entered_here a.state (at_number a.state f.0 state.Active) a.page (at_number a.page f.0 (Some g)) a.modify (at_number a.modify f.0 true) a.valid a.ring ring' flights p v f.0
      (row_of parts.frames f.0) state.Active g true (page_slot g slot) (fit.frames.rows f.0)
      (at_number_same a.state f.0 state.Active) (at_number_same a.page f.0 (Some g)) (at_number_same a.modify f.0 true)
      (slot_here slot chosen g own)
      (pins_entered a.valid a.ring p v f.0 slot (placed (a.ring p) (a.limit p) v) at no_slot f.0))
      (λ h apart. entered_there a.state (at_number a.state f.0 state.Active) a.page (at_number a.page f.0 (Some g)) a.modify (at_number a.modify f.0 true) a.valid a.ring ring' flights p v f.0
      h apart (at_number_other a.state f.0 state.Active h apart) (at_number_other a.page f.0 (Some g) h apart) (at_number_other a.modify f.0 true h apart)
      (slot_stays a.ring p (placed (a.ring p) (a.limit p) v) slot None (fresh_slot v) at.empty at.slots (a.page h)
      (λ w holds. (refl, ne_eqb v w (λ same. unheld_own h (holds ∙ ap (λ (n : ℕ). Some (Private (proc p) n)) (sym same))))))
      (pins_entered a.valid a.ring p v f.0 slot (placed (a.ring p) (a.limit p) v) at no_slot h))

  -- ---- the process
  abbrev row : ℕ → ProcessRow
  row = process_row a.status a.ring a.limit a.references a.faults a.collided

  processes : (x : ProcessRow) → x ≡ slice_index_or parts.processes p x
      → ProcessesFit (process_row a.status ring' a.limit a.references (at_number a.faults p (a.faults p + 1)) a.collided) (length config.procs)
      (slice_set parts.processes p (record x { ring = placed x.ring x.limit v; faults = x.faults + 1 }))
  processes x read =
      let is = read_process config past a seat parts fit p x legal.row.own.process read in
      processes_set row (process_row a.status ring' a.limit a.references (at_number a.faults p (a.faults p + 1)) a.collided) (length config.procs) parts.processes p _ fit.processes legal.row.own.process
      (λ i. record {
        status = (is i).status;
        ring = (ap (λ (z : ProcessRow). placed z.ring z.limit v) is ∙ sym (at_number_same a.ring p (placed (a.ring p) (a.limit p) v))) i;
        limit = (is i).limit;
        references = (is i).references;
        faults = (ap (λ (z : ProcessRow). z.faults + 1) is ∙ sym (at_number_same a.faults p (a.faults p + 1))) i;
        collided = (is i).collided;
      })
      (λ q apart i. record {
        status = a.status q;
        ring = at_number_other a.ring p (placed (a.ring p) (a.limit p) v) q apart i;
        limit = a.limit q;
        references = a.references q;
        faults = at_number_other a.faults p (a.faults p + 1) q apart i;
        collided = a.collided q;
      })

  -- ---- the page's entry
  abbrev page' : ℕ → Option Page
  page' = at_number a.page f.0 (Some g)

  entry_there : (q w : ℕ) → (nat_eq p q && nat_eq v w) ≡ false → pte_of config a.map (valid_at p v f.0 ∷ a.valid) page' a.lies q w ≡ pte_of config a.map a.valid a.page a.lies q w
  entry_there q w apart = pte_stays config a.map a.valid (valid_at p v f.0 ∷ a.valid) a.page page' a.lies a.lies q w
      (find_cons_no (is_entry q w) (valid_at p v f.0) a.valid apart)
      (λ h mapped_h private. (holder_stays config a f.0 g legal.row.frame.empty unheld h (ap (same_page g) (own_is config a.map q w h mapped_h private) ∙ far q w apart), refl))

  pub zero_pte : (m : Mapped) → a.map p v ≡ Some m → pte_of config a.map (valid_at p v f.0 ∷ a.valid) page' a.lies p v ≡ Some (record { prot = m.prot; place = place.Valid false f })
  unfolding pte_of
  zero_pte m is =
      ap (λ (o : Option Mapped). pte_at config p v (holder config page') a.lies (entry_of (valid_at p v f.0 ∷ a.valid) p v) o) is
      ∙ ap (λ (o : Option Valid). pte_at config p v (holder config page') a.lies o (Some m)) (find_cons_yes (is_entry p v) (valid_at p v f.0) a.valid (and_from _ _ (nat_eq_refl p) (nat_eq_refl v)))

  tables : (tables' : PageTables) (old : Pte) → tables'.procs ≡ (parts.tables).procs → ((q w : ℕ) → pte_in tables' q w ≡ changed_at (pte_in parts.tables) p v (Some (record { prot = old.prot; place = place.Valid false f })) q w)
      → pte_in parts.tables p v ≡ Some old
      → TablesFit (pte_of config a.map (valid_at p v f.0 ∷ a.valid) page' a.lies) (length config.procs) tables'
  tables tables' old procs changed there =
      tables_set (pte_of config a.map a.valid a.page a.lies) (pte_of config a.map (valid_at p v f.0 ∷ a.valid) page' a.lies) (length config.procs) parts.tables tables' p v (Some (record { prot = old.prot; place = place.Valid false f }))
      fit.tables procs changed
      (ap (λ (n : ℕ). Some (record { prot = n; place = place.Valid false f })) (code_kept config a.map a.valid a.page a.lies (length config.procs) parts.tables p v mapped.0 old fit.tables mapped.1 there) ∙ sym (zero_pte mapped.0 mapped.1)) entry_there

  -- ---- what is kept of the page
  pages : (pages' : ChargedTable) → IsTableSet parts.pages pages' g (Some (record { touched = false; lies = None; assigned = None }))
      → PagesFit config (charged_row (g ∷ a.charged) a.touched a.lies a.assigned) pages'
  pages pages' changed =
      pages_set config (charged_row a.charged a.touched a.lies a.assigned) (charged_row (g ∷ a.charged) a.touched a.lies a.assigned) parts.pages pages' g _ fit.pages changed
      (sym (row_fresh config (past_view past) a g kept paged not_charged)) (row_beside a.charged a.touched a.lies a.assigned g)

  -- ---- shared pages
  held : holder config page' g ≡ Some f.0
  held = holder_there config (past_view (e ∷ past)) (after config past a e) g f.0 (step_kept config past a e formed kept legal) (at_number_same a.page f.0 (Some g))

  others : (h : ℕ) → (f.0 ≡ h → ⊥) → shares (valid_at p v f.0 ∷ a.valid) h ≡ shares a.valid h
  others h apart = count_cons_no (λ (x : Valid). nat_eq x.frame h) (valid_at p v f.0) a.valid (ne_eqb f.0 h apart)

  globals : (h : Page) → g ≡ h → GlobalsFit config page' (valid_at p v f.0 ∷ a.valid) (shared_in config h (held_in config h f.0 parts.globals))
  globals (Private q w) is = globals_same config a.page page' a.valid (valid_at p v f.0 ∷ a.valid) parts.globals
      (λ s i. holder_stays config a f.0 g legal.row.frame.empty unheld (Shared s i) (ap (λ (h : Page). same_page h (Shared s i)) is))
      (λ s i h found. others h (λ same. none-some (Shared s i) (sym legal.row.frame.empty ∙ (ap a.page same ∙ holder_holds config a.page (Shared s i) h found))))
      fit.globals
  globals (Shared s i) is =
      let now = subst (λ (h : Page). GlobalsFit config page' a.valid (held_in config h f.0 parts.globals)) is
      (globals_held config a f.0 g legal.row.frame.empty unheld head.shares held (λ t j same. real t j same) parts.globals fit.globals) in
      let there = real s i is in
      let holds = subst (λ (h : Page). holder config page' h ≡ Some f.0) is held in
      let none = now.shared s i there ∙ ap (shares_held a.valid) holds in
      let one = count_cons_yes (λ (x : Valid). nat_eq x.frame f.0) (valid_at p v f.0) a.valid (nat_eq_refl f.0) in
      globals_counted config page' a.valid (valid_at p v f.0 ∷ a.valid) f.0 others (held_in config (Shared s i) f.0 parts.globals) s i
      (count_of (held_in config (Shared s i) f.0 parts.globals) (section_page_number config s.0 i) + 1) now there holds (omega (arith, none, one))
    where
      real : (t : SecId) (j : ℕ) → g ≡ Shared t j → IsSectionPage config.sections t.0 j
      real t j same = (page_right config a.map p v (Shared t j) right.mapped (own ∙ ap Some same)).0

  pub zero_parts : (x : ProcessRow) → x ≡ slice_index_or parts.processes p x → (slot : ℕ) → choose (a.ring p) (a.limit p) ≡ Empty slot → (frames' : Frames)
      → frames'.rows ≡ slice_set parts.frames.rows f.0 (record (row_of parts.frames f.0) { state = state.Active; page = Some g; modify = true; refs = counted_references ((row_of parts.frames f.0).shares + 1) (row_of parts.frames f.0).flights + uncounted (row_of parts.frames f.0); shares = (row_of parts.frames f.0).shares + 1; slot = page_slot g slot })
      → frames'.free ≡ without parts.frames.free f.0 → frames'.modified ≡ without parts.frames.modified f.0
      → (tables' : PageTables) (old : Pte) → tables'.procs ≡ (parts.tables).procs → ((q w : ℕ) → pte_in tables' q w ≡ changed_at (pte_in parts.tables) p v (Some (record { prot = old.prot; place = place.Valid false f })) q w) → pte_in parts.tables p v ≡ Some old
      → (pages' : ChargedTable) → IsTableSet parts.pages pages' g (Some (record { touched = false; lies = None; assigned = None }))
      → (globals' : GlobalPages) → globals' ≡ shared_in config g (held_in config g f.0 parts.globals)
      → PartsFit config (e ∷ past) (after config past a e)
      (record parts { frames = frames'; processes = slice_set parts.processes p (record x { ring = placed x.ring x.limit v; faults = x.faults + 1 }); tables = tables'; pages = pages'; globals = globals'; file = record parts.file { charged = parts.file.charged + 1 } })
  zero_parts x read slot chosen frames' rows free modified tables' old procs changed there pages' changed' globals' shared =
      record {
        frames = frames frames' slot chosen rows free modified;
        flights = fit.flights;
        processes = processes x read;
        spoken = fit.spoken;
        tables = tables tables' old procs changed there;
        sections = fit.sections;
        pages = pages pages' changed';
        globals = subst (GlobalsFit config page' (valid_at p v f.0 ∷ a.valid)) (sym shared) (globals g refl);
        file = record { count = fit.file.count; charges = ap (λ (n : ℕ). n + 1) fit.file.charges ∙ more; blocks = fit.file.blocks; owners = fit.file.owners };
        swaps = fit.swaps;
        seats = fit.seats;
        failed = none_failed past parts (no_reuse config past e legal.in_turn refl) fit.failed;
      }
    where
      more : length a.charged + 1 ≡ length (g ∷ a.charged)
      more = omega arith
