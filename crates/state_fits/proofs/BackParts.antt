-- BACK: the parts afterwards, of a resident and of a coming process.
use Rattle.std.proofs.Common.{◌≡◌, inl, inr, ℕ, ◌+◌, ◌<◌, Bool, true, false, cond, List, ◌∷◌, Option, Some, None, length, slice_get, slice_set, slice_index_or, refl, sym, ap, ap₂, ◌∙◌, subst, subst₂, arith}
use Rattle.std.specs.Option.{option_map}
use Rattle.std.proofs.lemmas.Bool.{eq-eqb}
use Rattle.std.proofs.lemmas.Option.{none-some, slice_get-get_or}
use Rattle.vm_types.specs.PagePlaces.{changed_at}
use Rattle.vm_types.specs.Ring.{Held, Ring, choose, fresh_slot}
use Rattle.vm_types.specs.Same.{same_page}
use Rattle.vm_types.specs.declared.config.Config.{Config}
use Rattle.vm_types.specs.declared.names.Addr.{Addr}
use Rattle.vm_types.specs.declared.names.BlockId.{BlockId}
use Rattle.vm_types.specs.declared.names.BlockId.TheVariants as block
use Rattle.vm_types.specs.declared.names.FrameState.{FrameState}
use Rattle.vm_types.specs.declared.names.FrameState.TheVariants as state
use Rattle.vm_types.specs.declared.names.Page.{Page}
use Rattle.vm_types.specs.declared.names.Page.TheVariants.{Private}
use Rattle.vm_types.specs.declared.names.Pfn.{Pfn}
use Rattle.vm_types.specs.declared.names.Proc.{Proc}
use Rattle.vm_types.specs.declared.names.ProcStatus.{ProcStatus}
use Rattle.vm_types.specs.declared.names.ProcStatus.TheVariants as status
use Rattle.vm_types.specs.declared.names.Seat.{Seat}
use Rattle.vm_types.specs.declared.ring_choice.Choice.TheVariants.{Empty}
use Rattle.vm_journal.specs.declared.entry.Entry.{Entry}
use Rattle.vm_journal.specs.declared.entry.What.TheVariants as what
use Rattle.global_pages.specs.GlobalPages.{GlobalPages}
use Rattle.page_lists.specs.Lists.{without}
use Rattle.page_lists.proofs.Counts.{without-absent}
use Rattle.page_tables.specs.PageTables.{PageTables, pte_in}
use Rattle.pfn_database.specs.Frames.{Frames, row_of}
use Rattle.pfn_database.specs.declared.row.Row.{Row}
use Rattle.pte_forms.specs.declared.pte.Place.TheVariants as place
use Rattle.pte_forms.specs.declared.pte.Pte.{Pte}
use Rattle.state_parts.specs.ChargedTable.{ChargedTable, IsTableSet, kept_at}
use Rattle.state_parts.specs.SwapTable.{SwapTable, swapped_at}
use Rattle.state_parts.specs.declared.charged_page.ChargedPage.{ChargedPage}
use Rattle.state_parts.specs.declared.process_row.ProcessRow.{ProcessRow}
use Rattle.pager_model.specs.Around.{frame_view, past_view, process_view, quiet}
use Rattle.pager_model.specs.Back.{IsAnyBack, IsBack, IsBackComing, after_any_back, block_slot, lies_of}
use Rattle.pager_model.specs.Changes.{lies_nowhere, valid_at}
use Rattle.pager_model.specs.Flights.{Flight, open_flights}
use Rattle.pager_model.specs.Maps.{pfn, page_number, proc}
use Rattle.pager_model.specs.Lookups.{entries_at, has_vpn, is, page_by, slot_of}
use Rattle.pager_model.specs.OfConfig.{IsOfConfig}
use Rattle.pager_model.specs.Pager.{Pager}
use Rattle.pager_model.specs.Ring.{placed, slotted}
use Rattle.pager_model.specs.Sets.{at_number}
use Rattle.pager_model.specs.Sound.{FitsSlot, IsSwapped}
use Rattle.pager_model.specs.Step.{IsLegal, after}
use Rattle.pager_rules.proofs.Basics.{at_number_other, at_number_same, same_page_refl}
use Rattle.pager_rules.proofs.Frames.{at_state}
use Rattle.pager_rules.proofs.Lists.{count_written}
use Rattle.pager_rules.proofs.Pages.{is_of_private, own_is}
use Rattle.pager_rules.proofs.Quiet.{no_failure}
use Rattle.pager_rules.proofs.Turns.{calm, no_reuse}
use Rattle.pager_rules.specs.Kept.{IsKept}
use Rattle.pager_laws.proofs.Holders.{holds_within}
use Rattle.pager_laws.proofs.EntryPages.{mapped_right}
use Rattle.state_fits.specs.Changes.{page_slot, shared_in}
use Rattle.state_fits.specs.Globals.{GlobalsFit}
use Rattle.state_fits.specs.Parts.{Parts}
use Rattle.state_fits.specs.PartsFit.{PartsFit}
use Rattle.state_fits.specs.Processes.{process_row}
use Rattle.state_fits.proofs.EnteredFrame.{IsPut, put_there}
use Rattle.state_fits.proofs.EnteredParts.{entered_row, frames_entered, globals_entered, tables_entered}
use Rattle.state_fits.proofs.FrameRows.{row_read}
use Rattle.state_fits.proofs.LiesNowhere.{charged_lies, pages_nowhere, swaps_cleared}
use Rattle.state_fits.proofs.PartsSet.{process_read, processes_set}

module _ (config : Config) (past : List Entry) (a : Pager) (seat : Seat) (q : Proc) (address : Addr) (f : Pfn) (from : FrameState) (parts : Parts)
    (before : IsKept config (past_view past) a) (right : IsOfConfig config a)
    (legal : IsLegal config past a (record { seat = seat; what = what.Back q address f from })) (fit : PartsFit config past a parts) where
  abbrev v : ℕ
  v = page_number address.0

  abbrev e : Entry
  e = record { seat = seat; what = what.Back q address f from }

  pub kept : IsKept config (quiet (open_flights past)) a
  kept = calm config past a e legal.in_turn refl before

  -- in both forms
  pub page_there : IsAnyBack config a seat.0 q.0 address.0 f.0 from → (g : Page) × (page_by config a.map q.0 v ≡ Some g) × (a.page f.0 ≡ Some g)
  page_there (inl legal) = (legal.1.page, legal.1.mapped, legal.1.holds)
  page_there (inr legal) = (legal.page, legal.mapped, legal.holds)

  abbrev its : (g : Page) × (page_by config a.map q.0 v ≡ Some g) × (a.page f.0 ≡ Some g)
  its = page_there legal.row

  pub process : q.0 < length config.procs
  process = (mapped_right config a q.0 v its.0 right its.1).3.process

  pub below : f.0 < config.frames
  below = holds_within config (quiet (open_flights past)) a f.0 its.0 kept its.2

  abbrev row_of_process : ℕ → ProcessRow
  row_of_process = process_row a.status a.ring a.limit a.references a.faults a.collided

  read_process : (x : ProcessRow) → x ≡ slice_index_or parts.processes q.0 x → x ≡ row_of_process q.0
  read_process x read = process_read row_of_process (length config.procs) parts.processes q.0 x fit.processes process read

  row_held : (g : Page) → (row_of parts.frames f.0).page ≡ Some g → a.page f.0 ≡ Some g
  row_held g is = sym (ap (λ (row : Row). row.page) (row_read a.state a.page a.modify a.valid a.ring (open_flights past) config.frames a.free a.modified parts.frames f.0 fit.frames)) ∙ is

  row_marked : a.modify f.0 ≡ (row_of parts.frames f.0).modify
  row_marked = sym (ap (λ (row : Row). row.modify) (row_read a.state a.page a.modify a.valid a.ring (open_flights past) config.frames a.free a.modified parts.frames f.0 fit.frames))

  -- ---- a resident process
  resident : IsAnyBack config a seat.0 q.0 address.0 f.0 from → (a.status q.0 ≡ status.Coming → ⊥) → IsBack config a q.0 address.0 f.0 from
  resident (inl legal) not_coming = legal.1
  resident (inr legal) not_coming = absurd (not_coming legal.coming)

  pub is_resident : (x : ProcessRow) → x ≡ slice_index_or parts.processes q.0 x → (x.status ≡ status.Coming → ⊥) → IsBack config a q.0 address.0 f.0 from
  is_resident x read not_coming = resident legal.row (λ coming. not_coming (ap (λ (y : ProcessRow). y.status) (read_process x read) ∙ coming))

  pub back_parts : (x : ProcessRow) (g : Page) (slot : ℕ) (pte : Pte) (frames' : Frames) (tables' : PageTables)
      → x ≡ slice_index_or parts.processes q.0 x → (x.status ≡ status.Coming → ⊥)
      → (row_of parts.frames f.0).page ≡ Some g
      → choose x.ring x.limit ≡ Empty slot
      → pte_in parts.tables q.0 v ≡ Some pte
      → frames'.rows ≡ slice_set parts.frames.rows f.0 (entered_row g (row_of parts.frames f.0).modify (page_slot g slot) (row_of parts.frames f.0))
      → frames'.free ≡ without parts.frames.free f.0
      → frames'.modified ≡ without parts.frames.modified f.0
      → tables'.procs ≡ parts.tables.procs
      → ((r w : ℕ) → pte_in tables' r w ≡ changed_at (pte_in parts.tables) q.0 v (Some (record pte { place = place.Valid false (pfn f.0) })) r w)
      → PartsFit config (e ∷ past) (after config past a e) (record parts {
        frames = frames';
        processes = slice_set parts.processes q.0 (record x { ring = placed x.ring x.limit v; faults = x.faults + 1 });
        tables = tables';
        globals = shared_in config g parts.globals;
      })
  back_parts x g slot pte frames' tables' read not_coming page chosen entry rows free modified procs changed =
      subst (λ (s : ProcStatus). PartsFit config (e ∷ past) (after_any_back a s q.0 address.0 f.0) (record parts {
        frames = frames';
        processes = slice_set parts.processes q.0 (record x { ring = placed x.ring x.limit v; faults = x.faults + 1 });
        tables = tables';
        globals = shared_in config g parts.globals;
      })) (sym back.own.resident) (record {
        frames = frames_entered config (quiet (open_flights past)) a q.0 v f.0 slot g new kept own held back.not_valid put (open_flights past) a.modify (row_of parts.frames f.0).modify (without a.free f.0) (without a.modified f.0) parts.frames frames'
            row_marked (λ h apart. refl) fit.frames below rows (free ∙ ap (λ (xs : List ℕ). without xs f.0) fit.frames.free_list) (modified ∙ ap (λ (xs : List ℕ). without xs f.0) fit.frames.modified_list);
        flights = fit.flights;
        processes = processes_set row_of_process (process_row a.status (at_number a.ring q.0 new) a.limit a.references (at_number a.faults q.0 (a.faults q.0 + 1)) a.collided) (length config.procs) parts.processes q.0 _ fit.processes process
            (ap (λ (y : ProcessRow). record y { ring = placed y.ring y.limit v; faults = y.faults + 1 }) is
            ∙ ap₂ (λ (r : Ring) (n : ℕ). record (row_of_process q.0) { ring = r; faults = n }) (sym (at_number_same a.ring q.0 new)) (sym (at_number_same a.faults q.0 (a.faults q.0 + 1))))
            (λ r apart. ap₂ (λ (k : Ring) (n : ℕ). record (row_of_process r) { ring = k; faults = n }) (at_number_other a.ring q.0 new r apart) (at_number_other a.faults q.0 (a.faults q.0 + 1) r apart));
        spoken = record { count = fit.spoken.count; each = fit.spoken.each };
        tables = tables_entered config (quiet (open_flights past)) a q.0 v f.0 slot g new kept own held back.not_valid put a.lies parts.tables tables' pte (λ r w apart. refl) fit.tables entry procs changed;
        sections = fit.sections;
        pages = fit.pages;
        globals = globals_entered config (quiet (open_flights past)) a q.0 v f.0 slot g new kept own held back.not_valid put parts.globals right.held fit.globals;
        file = fit.file;
        swaps = fit.swaps;
        seats = fit.seats;
        failed = fit.failed ∙ ap (option_map (λ (y : Flight). y.block)) (no_failure past (no_reuse config past e legal.in_turn refl));
      })
    where
      is : x ≡ row_of_process q.0
      is = read_process x read

      back : IsBack config a q.0 address.0 f.0 from
      back = is_resident x read not_coming

      new : Ring
      new = placed (a.ring q.0) (a.limit q.0) v

      held : a.page f.0 ≡ Some g
      held = row_held g page

      own : page_by config a.map q.0 v ≡ Some g
      own = back.mapped ∙ (sym back.holds ∙ held)

      put : IsPut (a.ring q.0) new slot v
      put = put_there (process_view config a q.0) slot v (kept.processes q.0) back.below_limit (ap (λ (y : ProcessRow). choose y.ring y.limit) (sym is) ∙ chosen)

  -- ---- a coming process
  coming : IsAnyBack config a seat.0 q.0 address.0 f.0 from → a.status q.0 ≡ status.Coming → IsBackComing config a q.0 address.0 f.0 from
  coming (inl legal) is = absurd (let resident = legal.1.own.resident in cc (is, resident))
  coming (inr legal) is = legal

  pub is_coming : (x : ProcessRow) → x ≡ slice_index_or parts.processes q.0 x → x.status ≡ status.Coming → IsBackComing config a q.0 address.0 f.0 from
  is_coming x read comes = coming legal.row (sym (ap (λ (y : ProcessRow). y.status) (read_process x read)) ∙ comes)

  -- its page is private, lies in the swap block of a slot that is empty, and is charged
  module _ (back : IsBackComing config a q.0 address.0 f.0 from) where
    swap : IsSwapped a.lies a.status a.ring a.state a.page back.page q.0 back.slot
    swap = kept.swapped back.page q.0 back.slot back.lies

    pub page_own : back.page ≡ Private (proc q.0) v
    page_own = own_is config a.map q.0 v back.page back.mapped (is_of_private q.0 back.page swap.own)

    pub lay : a.lies (Private (proc q.0) v) ≡ Some (block.Swap (proc q.0) back.slot)
    lay = ap a.lies (sym page_own) ∙ back.lies

    pub empty : slice_get (a.ring q.0).slots back.slot ≡ Some None
    empty = go (slice_get (a.ring q.0).slots back.slot) refl
      where
        none : entries_at a.valid q.0 v ≡ 0
        none = back.not_valid

        go : (o : Option (Option Held)) → slice_get (a.ring q.0).slots back.slot ≡ o → slice_get (a.ring q.0).slots back.slot ≡ Some None
        go None is = let there = slice_get-get_or (a.ring q.0).slots back.slot None swap.within in absurd (none-some _ (sym is ∙ there))
        go (Some None) is = is
        go (Some (Some h)) is =
            let fits : FitsSlot q.0 (Some h) (Private (proc q.0) v) = subst₂ (λ (o : Option (Option Held)) (z : Page). FitsSlot q.0 (slot_of o) z) is page_own swap.slot in
            let whole = count_written (has_vpn v) (a.ring q.0).slots back.slot (Some h) None is in
            let one = ap (λ (b : Bool). cond {A = ℕ} b 1 0) (eq-eqb h.vpn v fits.1) in
            absurd (omega (arith, whole, one, (kept.entries q.0 v).slots, none))

    abbrev home : Ring
    home = slotted (a.ring q.0) (block_slot (lies_of a.lies (a.page f.0))) v

    slot_is : block_slot (lies_of a.lies (a.page f.0)) ≡ back.slot
    slot_is = ap (λ (o : Option Page). block_slot (lies_of a.lies o)) back.holds ∙ ap block_slot back.lies

    put : IsPut (a.ring q.0) home back.slot v
    put = record { within = swap.within; empty = empty; slots = ap (λ (n : ℕ). slice_set (a.ring q.0).slots n (fresh_slot v)) slot_is }

    abbrev lies' : Page → Option BlockId
    lies' = lies_nowhere a.lies (a.page f.0)

    lies_at : (h : Page) → lies' h ≡ cond (same_page (Private (proc q.0) v) h) None (a.lies h)
    lies_at h = ap (λ (o : Option Page). lies_nowhere a.lies o h) (back.holds ∙ ap Some page_own)

    lies_here : lies' (Private (proc q.0) v) ≡ None
    lies_here = lies_at (Private (proc q.0) v) ∙ ap (λ (b : Bool). cond b None (a.lies (Private (proc q.0) v))) (same_page_refl (Private (proc q.0) v))

    lies_there : (h : Page) → same_page (Private (proc q.0) v) h ≡ false → lies' h ≡ a.lies h
    lies_there h apart = lies_at h ∙ ap (λ (b : Bool). cond b None (a.lies h)) apart

    unlisted : without a.modified f.0 ≡ a.modified
    unlisted = without-absent a.modified f.0 (at_state (frame_view config (quiet (open_flights past)) a f.0) state.Free (back.state ∙ back.free) (kept.frames f.0)).on_modified

    not_shared : (table : GlobalPages) → GlobalsFit config a.page a.valid table → GlobalsFit config a.page (valid_at q.0 v f.0 ∷ a.valid) table
    not_shared table = globals_entered config (quiet (open_flights past)) a q.0 v f.0 back.slot (Private (proc q.0) v) home kept (back.mapped ∙ ap Some page_own) (back.holds ∙ ap Some page_own) back.not_valid put table right.held

  -- what is kept of the page says where it lay
  lay_there : (c : ChargedPage) (r : Proc) (n : ℕ) → kept_at parts.pages (Private q v) ≡ Some c → c.lies ≡ Some (block.Swap r n) → (back : IsBackComing config a q.0 address.0 f.0 from) → n ≡ back.slot
  lay_there c r n read lies back =
      let known = charged_lies a.charged a.touched a.lies a.assigned (Private q v) c (sym (fit.pages.each (Private q v)) ∙ read) in
      ap block_slot (sym lies ∙ (known ∙ lay back))

  pub back_coming_parts : (x : ProcessRow) (g : Page) (c : ChargedPage) (r : Proc) (n : ℕ) (pte : Pte) (frames' : Frames) (tables' : PageTables) (pages' : ChargedTable) (swaps' : SwapTable)
      → x ≡ slice_index_or parts.processes q.0 x → x.status ≡ status.Coming
      → (row_of parts.frames f.0).page ≡ Some g
      → kept_at parts.pages (Private q v) ≡ Some c → c.lies ≡ Some (block.Swap r n)
      → pte_in parts.tables q.0 v ≡ Some pte
      → frames'.rows ≡ slice_set parts.frames.rows f.0 (entered_row g true n (row_of parts.frames f.0))
      → frames'.free ≡ without parts.frames.free f.0
      → frames'.modified ≡ without parts.frames.modified f.0
      → tables'.procs ≡ parts.tables.procs
      → ((s w : ℕ) → pte_in tables' s w ≡ changed_at (pte_in parts.tables) q.0 v (Some (record pte { place = place.Valid false (pfn f.0) })) s w)
      → IsTableSet parts.pages pages' (Private q v) (Some (record c { lies = None }))
      → swaps'.procs ≡ parts.swaps.procs
      → ((s m : ℕ) → swapped_at swaps' s m ≡ changed_at (swapped_at parts.swaps) q.0 n None s m)
      → PartsFit config (e ∷ past) (after config past a e) (record parts {
        frames = frames';
        processes = slice_set parts.processes q.0 (record x { ring = slotted x.ring n v });
        tables = tables';
        pages = pages';
        swaps = swaps';
      })
  back_coming_parts x g c r n pte frames' tables' pages' swaps' read comes page charged lies entry rows free modified procs changed pages_changed swaps_procs swaps_changed =
      subst (λ (s : ProcStatus). PartsFit config (e ∷ past) (after_any_back a s q.0 address.0 f.0) (record parts {
        frames = frames';
        processes = slice_set parts.processes q.0 (record x { ring = slotted x.ring n v });
        tables = tables';
        pages = pages';
        swaps = swaps';
      })) (sym back.coming) (record {
        frames = frames_entered config (quiet (open_flights past)) a q.0 v f.0 back.slot (Private (proc q.0) v) (home back) kept own held back.not_valid (put back) (open_flights past) (at_number a.modify f.0 true) true (without a.free f.0) a.modified parts.frames frames'
            (at_number_same a.modify f.0 true) (λ h apart. at_number_other a.modify f.0 true h apart) fit.frames below
            (rows ∙ ap₂ (λ (y : Page) (m : ℕ). slice_set parts.frames.rows f.0 (entered_row y true m (row_of parts.frames f.0))) g_is slot_known)
            (free ∙ ap (λ (xs : List ℕ). without xs f.0) fit.frames.free_list) (modified ∙ (ap (λ (xs : List ℕ). without xs f.0) fit.frames.modified_list ∙ unlisted back));
        flights = fit.flights;
        processes = processes_set row_of_process (process_row a.status (at_number a.ring q.0 (home back)) a.limit a.references a.faults a.collided) (length config.procs) parts.processes q.0 _ fit.processes process
            (ap₂ (λ (y : ProcessRow) (m : ℕ). record y { ring = slotted y.ring m v }) is (slot_known ∙ sym (slot_is back))
            ∙ ap (λ (k : Ring). record (row_of_process q.0) { ring = k }) (sym (at_number_same a.ring q.0 (home back))))
            (λ s apart. ap (λ (k : Ring). record (row_of_process s) { ring = k }) (at_number_other a.ring q.0 (home back) s apart));
        spoken = record { count = fit.spoken.count; each = fit.spoken.each };
        tables = tables_entered config (quiet (open_flights past)) a q.0 v f.0 back.slot (Private (proc q.0) v) (home back) kept own held back.not_valid (put back) (lies' back) parts.tables tables' pte (λ r w apart. lies_there back (Private (proc r) w) apart) fit.tables entry procs changed;
        sections = fit.sections;
        pages = pages_nowhere a.lies (lies' back) q.0 v (lies_here back) (lies_there back) a.charged a.touched a.assigned config parts.pages pages' c fit.pages charged pages_changed;
        globals = not_shared back parts.globals fit.globals;
        file = fit.file;
        swaps = swaps_cleared a.lies (lies' back) q.0 v (lies_here back) (lies_there back) back.slot (length config.procs) parts.swaps swaps' fit.swaps (lay back) swaps_procs
            (λ s m. swaps_changed s m ∙ ap (λ (k : ℕ). changed_at (swapped_at parts.swaps) q.0 k None s m) slot_known);
        seats = fit.seats;
        failed = fit.failed ∙ ap (option_map (λ (y : Flight). y.block)) (no_failure past (no_reuse config past e legal.in_turn refl));
      })
    where
      is : x ≡ row_of_process q.0
      is = read_process x read

      back : IsBackComing config a q.0 address.0 f.0 from
      back = is_coming x read comes

      own : page_by config a.map q.0 v ≡ Some (Private (proc q.0) v)
      own = back.mapped ∙ ap Some (page_own back)

      held : a.page f.0 ≡ Some (Private (proc q.0) v)
      held = back.holds ∙ ap Some (page_own back)

      g_is : g ≡ Private (proc q.0) v
      g_is = let here = row_held g page in cc (here, held)

      slot_known : n ≡ back.slot
      slot_known = lay_there c r n charged lies back
