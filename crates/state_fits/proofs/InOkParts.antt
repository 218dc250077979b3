-- INOK: a read lands well, of role FAULT, NEAR or COME.
use Rattle.std.proofs.Common.{◌≡◌, inl, inr, ℕ, ◌<◌, ◌+◌, ◌-◌, Bool, true, false, cond, List, [], ◌∷◌, ◌++◌, Option, Some, None, length, count_by, slice_get, slice_set, slice_index_or, refl, sym, ap, ap₂, ◌∙◌, subst, subst₂, arith}
use Rattle.std.proofs.lemmas.Bool.{eq-eqb, false≢true}
use Rattle.std.proofs.lemmas.Option.{none-some, slice_get-get_or}
use Rattle.vm_types.specs.PagePlaces.{changed_at}
use Rattle.vm_types.specs.Same.{same_page}
use Rattle.vm_types.specs.Ring.{Held, Ring, choose}
use Rattle.vm_types.specs.declared.ring_choice.Choice.TheVariants.{Empty}
use Rattle.vm_types.specs.declared.config.Config.{Config}
use Rattle.vm_types.specs.declared.names.Addr.{Addr}
use Rattle.vm_types.specs.declared.names.BlockId.TheVariants as block
use Rattle.vm_types.specs.declared.names.FrameState.TheVariants as state
use Rattle.vm_types.specs.declared.names.Page.{Page}
use Rattle.vm_types.specs.declared.names.Page.TheVariants.{Private}
use Rattle.vm_types.specs.declared.names.Pfn.{Pfn}
use Rattle.vm_types.specs.declared.names.Proc.{Proc}
use Rattle.vm_types.specs.declared.names.Seat.{Seat}
use Rattle.vm_journal.specs.declared.entry.Entry.{Entry}
use Rattle.vm_journal.specs.declared.entry.Role.{Role}
use Rattle.vm_journal.specs.declared.entry.Role.TheVariants as role
use Rattle.vm_journal.specs.declared.entry.What.TheVariants as what
use Rattle.page_tables.specs.PageTables.{PageTables, pte_in}
use Rattle.pte_forms.specs.declared.pte.Place.TheVariants as place
use Rattle.pte_forms.specs.declared.pte.Pte.{Pte}
use Rattle.global_pages.specs.GlobalPages.{GlobalPages}
use Rattle.pfn_database.specs.Frames.{Frames, row_of}
use Rattle.pfn_database.specs.Rows.{counted_references, uncounted}
use Rattle.pfn_database.specs.declared.row.Row.{Row}
use Rattle.pager_laws.proofs.InOkKept.{fit as its_fit, fits}
use Rattle.pager_model.specs.Around.{entry_view, page_view, past_view, process_view, quiet}
use Rattle.pager_model.specs.Changes.{lies_nowhere, swap_slot, valid_at}
use Rattle.pager_model.specs.Flights.{Direction, Flight, open_flights, reading, without_flight}
use Rattle.pager_model.specs.InOk.{after_in_ok, after_read, is_first_read}
use Rattle.pager_model.specs.Lookups.{has_vpn, page_by, shares, slot_of}
use Rattle.pager_model.specs.Maps.{page_number, proc}
use Rattle.pager_model.specs.OfConfig.{IsOfConfig}
use Rattle.pager_model.specs.Pager.{Pager}
use Rattle.pager_model.specs.Ring.{placed, slotted}
use Rattle.pager_model.specs.Sets.{at_number, at_page}
use Rattle.pager_model.specs.Sound.{FitsSlot, IsSwapped}
use Rattle.pager_model.specs.Step.{after, IsLegal}
use Rattle.pager_model.specs.Transfers.{reads_on, writes_on}
use Rattle.pager_rules.proofs.Basics.{at_number_other, at_number_same}
use Rattle.pager_rules.proofs.Lists.{count_written}
use Rattle.pager_rules.proofs.Pages.{is_of_private, own_is}
use Rattle.pager_rules.proofs.Put.{lies_other, lies_same}
use Rattle.pager_rules.proofs.Quiet.{starts_once}
use Rattle.pager_rules.proofs.Turns.{calm, no_reuse}
use Rattle.pager_rules.specs.Kept.{FitsRead, FitsRole, IsKept}
use Rattle.state_parts.specs.ChargedTable.{ChargedTable, IsTableSet, kept_at}
use Rattle.state_parts.specs.SwapTable.{SwapTable, swapped_at}
use Rattle.state_parts.specs.declared.charged_page.ChargedPage.{ChargedPage}
use Rattle.state_parts.specs.declared.process_row.ProcessRow.{ProcessRow}
use Rattle.pager_laws.proofs.EntryPages.{mapped_right}
use Rattle.state_fits.specs.Changes.{page_slot, shared_in}
use Rattle.state_fits.specs.Frames.{frame_pins, frame_row, row_by, slot_for}
use Rattle.state_fits.specs.Globals.{GlobalsFit}
use Rattle.state_fits.specs.Parts.{Parts}
use Rattle.state_fits.specs.PartsFit.{PartsFit}
use Rattle.state_fits.specs.Processes.{ProcessesFit, process_row}
use Rattle.state_fits.specs.Seats.{FlightsFit, SeatsFit}
use Rattle.state_fits.proofs.FrameRows.{over_pins}
use Rattle.state_fits.proofs.EnteredFrame.{IsPut, put_there}
use Rattle.state_fits.proofs.FlightsMoved.{flights_landed_at, one_on_frame, seats_landed_at}
use Rattle.state_fits.proofs.GlobalShares.{globals_shared}
use Rattle.state_fits.proofs.LiesNowhere.{pages_nowhere, swaps_cleared}
use Rattle.state_fits.proofs.OnePlace.{apart_back}
use Rattle.state_fits.proofs.PartsSet.{frames_set, process_read, processes_set}
use Rattle.state_fits.proofs.ReadIn.{one_more, others_share, read_in_frames, read_in_tables}
use Rattle.state_fits.proofs.ReadLanded.{IsLandedOn, landed_on}
use Rattle.state_fits.proofs.SimpleParts.{none_failed}
use Rattle.state_fits.proofs.UnsharedFrames.{no_entries}

module _ (config : Config) (past : List Entry) (a : Pager) (seat : Seat) (f : Pfn) (k : ℕ) (kept : IsKept config (past_view past) a) (right : IsOfConfig config a)
    (legal : IsLegal config past a (record { seat = seat; what = what.InOk f k })) (parts : Parts) (fit : PartsFit config past a parts) where
  abbrev e : Entry
  e = record { seat = seat; what = what.InOk f k }

  abbrev x : Flight
  x = legal.row.flight

  abbrev flights : List Flight
  flights = open_flights past

  abbrev rest : List Flight
  rest = without_flight k flights

  still : IsKept config (quiet flights) a
  still = calm config past a e legal.in_turn refl kept

  pub in_ok_on : IsLandedOn config a flights rest f.0
  in_ok_on = landed_on config past a seat.0 f.0 k x legal.row.role still legal.row.lands legal.row.reads

  -- ---- the open flights
  seat_there : seat.0 < length config.procs + 2
  seat_there = let few = legal.line.seat in omega (arith, few)

  landed_flights : FlightsFit rest config.frames (slice_set parts.starts f.0 None) (slice_set parts.roles f.0 None)
  landed_flights = flights_landed_at flights config.frames k x legal.row.lands.open_k (starts_once past k) f.0 legal.row.lands.frame parts.starts parts.roles fit.flights in_ok_on.within (one_on_frame config (past_view past) a f.0 kept)

  landed_seats : (n : ℕ) → n ≡ slice_index_or parts.busy seat.0 n → SeatsFit rest (length config.procs + 2) (slice_set parts.busy seat.0 (n - 1)) (parts.in_flight - 1)
  landed_seats n read = seats_landed_at flights (length config.procs + 2) k x legal.row.lands.open_k (starts_once past k) seat.0 legal.row.lands.seat parts.busy parts.in_flight n fit.seats seat_there read

  none_fails : parts.failed ≡ None
  none_fails = none_failed past parts (no_reuse config past e legal.in_turn refl) fit.failed

  -- ---- the state after it, by its direction
  by_direction : (parts' : Parts) (d : Direction) → x.direction ≡ d → PartsFit config (e ∷ past) (after_read a f.0 x.block d) parts' → PartsFit config (e ∷ past) (after config past a e) parts'
  by_direction parts' d is all =
      subst (λ (o : Option Flight). PartsFit config (e ∷ past) (after_in_ok a f.0 o) parts') (sym legal.row.lands.open_k)
      (subst (λ (way : Direction). PartsFit config (e ∷ past) (after_read a f.0 x.block way) parts') (sym is) all)

  -- what its role says of its page
  abbrev pub Facts : Role → Page → Type 0
  Facts r g = FitsRead x r g (page_view config a g) × FitsRole x g (process_view config a) (entry_view config a) r

  pub facts : (r : Role) → x.direction ≡ reading r → Facts r in_ok_on.page
  facts r reads =
      let its = its_fit config a flights k x r still legal.row.lands.open_k (starts_once past k) reads in
      let same : its.page ≡ in_ok_on.page = let first = ap a.page (sym legal.row.lands.frame) ∙ its.held in let second = in_ok_on.holds in cc (first, second) in
      subst (Facts r) same (fits config a flights k x r still legal.row.lands.open_k (starts_once past k) reads)

  abbrev old_row : ℕ → Row
  old_row = frame_row a.state a.page a.modify a.valid a.ring flights

  abbrev row : ℕ → ProcessRow
  row = process_row a.status a.ring a.limit a.references a.faults a.collided

  -- the page that the frame's row shows
  pub page_is : (g : Page) → (row_of parts.frames f.0).page ≡ Some g → in_ok_on.page ≡ g
  unfolding frame_row
  page_is g is = let read = ap (λ (r : Row). r.page) (fit.frames.rows f.0) in let holds = in_ok_on.holds in cc (is, read, holds)

  processes : (q : ℕ) (new : Ring) (y : ProcessRow) (ring : Ring) → q < length config.procs → y ≡ row q → ring ≡ new
      → ProcessesFit (process_row a.status (at_number a.ring q new) a.limit a.references a.faults a.collided) (length config.procs) (slice_set parts.processes q (record y { ring = ring }))
  processes q new y ring below is ring_is =
      processes_set row (process_row a.status (at_number a.ring q new) a.limit a.references a.faults a.collided) (length config.procs) parts.processes q _ fit.processes below
      (λ i. record {
        status = (is i).status;
        ring = (ring_is ∙ sym (at_number_same a.ring q new)) i;
        limit = (is i).limit;
        references = (is i).references;
        faults = (is i).faults;
        collided = (is i).collided;
      })
      (λ p apart i. record {
        status = a.status p;
        ring = at_number_other a.ring q new p apart i;
        limit = a.limit p;
        references = a.references p;
        faults = a.faults p;
        collided = a.collided p;
      })

  -- ---- NEAR
  abbrev near_row : ℕ → Row
  near_row = frame_row (at_number a.state f.0 state.Free) a.page a.modify a.valid a.ring rest

  near_here : (r : Row) → r ≡ old_row f.0 → record r { state = state.Free; slot = 0; refs = counted_references r.shares 0 + uncounted r; flights = 0 } ≡ near_row f.0
  unfolding frame_row
  near_here r is = λ i. record {
    state = sym (at_number_same a.state f.0 state.Free) i;
    page = (is i).page;
    modify = (is i).modify;
    refs = (ap (λ (z : Row). counted_references z.shares 0 + uncounted z) is ∙ (λ j. counted_references (shares a.valid f.0) (sym in_ok_on.none j) + over_pins (counted_references (shares a.valid f.0) (reads_on f.0 flights + writes_on f.0 flights)) (frame_pins a.valid a.ring f.0) j)) i;
    shares = (is i).shares;
    slot = (sym in_ok_on.slot ∙ ap (slot_for a.ring) (sym in_ok_on.holds)) i;
    flights = sym in_ok_on.none i;
  }

  near_there : (h : ℕ) → (f.0 ≡ h → ⊥) → near_row h ≡ old_row h
  unfolding frame_row
  near_there h apart = λ i. row_by (at_number_other a.state f.0 state.Free h apart i) (a.page h) (a.modify h) (shares a.valid h) (in_ok_on.there h apart i) (slot_for a.ring (a.page h)) (frame_pins a.valid a.ring h)

  pub in_ok_near_parts : (g : Page) → legal.row.role ≡ role.Near g → (frames' : Frames)
      → frames'.rows ≡ slice_set (parts.frames).rows f.0 (record (row_of parts.frames f.0) { state = state.Free; slot = 0; refs = counted_references (row_of parts.frames f.0).shares 0 + uncounted (row_of parts.frames f.0); flights = 0 })
      → frames'.free ≡ (parts.frames).free ++ f.0 ∷ [] → frames'.modified ≡ (parts.frames).modified
      → (n : ℕ) → n ≡ slice_index_or parts.busy seat.0 n
      → PartsFit config (e ∷ past) (after config past a e) (record parts {
        frames = frames';
        starts = slice_set parts.starts f.0 None;
        roles = slice_set parts.roles f.0 None;
        busy = slice_set parts.busy seat.0 (n - 1);
        in_flight = parts.in_flight - 1;
      })
  in_ok_near_parts g is frames' rows free modified n read =
      by_direction _ (reading (role.Near g)) (legal.row.reads ∙ ap reading is) (record {
        frames = frames_set old_row near_row config.frames a.free (a.free ++ f.0 ∷ []) a.modified a.modified parts.frames frames' f.0 _ fit.frames in_ok_on.within rows
            (free ∙ ap (λ (xs : List ℕ). xs ++ f.0 ∷ []) fit.frames.free_list) (modified ∙ fit.frames.modified_list) (near_here (row_of parts.frames f.0) (fit.frames.rows f.0)) near_there;
        flights = landed_flights;
        processes = fit.processes;
        spoken = fit.spoken;
        tables = fit.tables;
        sections = fit.sections;
        pages = fit.pages;
        globals = fit.globals;
        file = fit.file;
        swaps = fit.swaps;
        seats = landed_seats n read;
        failed = none_fails;
      })

  -- ---- FAULT
  pub in_ok_fault_parts : (q : Proc) (address : Addr) → legal.row.role ≡ role.Fault q address → (g : Page) → (row_of parts.frames f.0).page ≡ Some g
      → (y : ProcessRow) → y ≡ slice_index_or parts.processes q.0 y → (slot : ℕ) → choose y.ring y.limit ≡ Empty slot
      → (frames' : Frames)
      → frames'.rows ≡ slice_set (parts.frames).rows f.0 (record (row_of parts.frames f.0) {
        state = state.Active;
        modify = is_first_read (Some g) (legal.row.flight).block;
        refs = counted_references ((row_of parts.frames f.0).shares + 1) 0 + uncounted (row_of parts.frames f.0);
        shares = (row_of parts.frames f.0).shares + 1;
        slot = page_slot g slot;
        flights = 0;
      })
      → frames'.free ≡ (parts.frames).free → frames'.modified ≡ (parts.frames).modified
      → (pte : Pte) → pte_in parts.tables q.0 (page_number address.0) ≡ Some pte
      → (tables' : PageTables) → tables'.procs ≡ (parts.tables).procs → ((p w : ℕ) → pte_in tables' p w ≡ changed_at (pte_in parts.tables) q.0 (page_number address.0) (Some (record pte { place = place.Valid false f })) p w)
      → (globals' : GlobalPages) → globals' ≡ shared_in config g parts.globals
      → (n : ℕ) → n ≡ slice_index_or parts.busy seat.0 n
      → PartsFit config (e ∷ past) (after config past a e) (record parts {
        frames = frames';
        starts = slice_set parts.starts f.0 None;
        roles = slice_set parts.roles f.0 None;
        processes = slice_set parts.processes q.0 (record y { ring = placed y.ring y.limit (page_number address.0) });
        tables = tables';
        globals = globals';
        busy = slice_set parts.busy seat.0 (n - 1);
        in_flight = parts.in_flight - 1;
      })
  in_ok_fault_parts q address is g shown y read slot chosen frames' rows free modified pte pte_read tables' procs changed globals' global n read_n =
      by_direction _ (reading (role.Fault q address)) reads (record {
        frames = read_in_frames config (past_view past) a flights rest f.0 q.0 v new slot m kept in_ok_on own put parts.frames frames' fit.frames (rows ∙ ap₂ row_with (ap Some (sym same) ∙ sym in_ok_on.holds) (sym same)) free modified;
        flights = landed_flights;
        processes = processes q.0 new y (placed y.ring y.limit v) there y_is (ap (λ (z : ProcessRow). placed z.ring z.limit v) y_is);
        spoken = fit.spoken;
        tables = read_in_tables config (past_view past) a flights rest f.0 q.0 v new slot m kept in_ok_on own put a.lies (λ p w apart h h_is. refl) (length config.procs) parts.tables tables' pte fit.tables pte_read procs changed;
        sections = fit.sections;
        pages = fit.pages;
        globals = rw (global, sym same) (globals_shared config (past_view past) a (valid_at q.0 v f.0 ∷ a.valid) f.0 in_ok_on.page parts.globals kept right.held in_ok_on.holds
            (others_share config (past_view past) a flights rest f.0 q.0 v new slot m kept in_ok_on own put) (one_more config (past_view past) a flights rest f.0 q.0 v new slot m kept in_ok_on own put) fit.globals);
        file = fit.file;
        swaps = fit.swaps;
        seats = landed_seats n read_n;
        failed = none_fails;
      })
    where
      v : ℕ
      v = page_number address.0

      new : Ring
      new = placed (a.ring q.0) (a.limit q.0) v

      m : Bool
      m = is_first_read (a.page f.0) x.block

      reads : x.direction ≡ reading (role.Fault q address)
      reads = legal.row.reads ∙ ap reading is

      own : page_by config a.map q.0 v ≡ Some in_ok_on.page
      own = (facts (role.Fault q address) reads).1.2

      there : q.0 < length config.procs
      there = (mapped_right config a q.0 v in_ok_on.page right own).3.process

      y_is : y ≡ row q.0
      y_is = process_read row (length config.procs) parts.processes q.0 y fit.processes there read

      put : IsPut (a.ring q.0) new slot v
      put = put_there (process_view config a q.0) slot v (kept.processes q.0) (facts (role.Fault q address) reads).1.4 (sym (ap (λ (z : ProcessRow). choose z.ring z.limit) y_is) ∙ chosen)

      same : in_ok_on.page ≡ g
      same = page_is g shown

      row_with : Option Page → Page → List Row
      row_with o h = slice_set (parts.frames).rows f.0 (record (row_of parts.frames f.0) {
        state = state.Active;
        modify = is_first_read o x.block;
        refs = counted_references ((row_of parts.frames f.0).shares + 1) 0 + uncounted (row_of parts.frames f.0);
        shares = (row_of parts.frames f.0).shares + 1;
        slot = page_slot h slot;
        flights = 0;
      })

  -- ---- COME
  module _ (q : Proc) (address : Addr) (is : legal.row.role ≡ role.Come q address) where
    abbrev v : ℕ
    v = page_number address.0

    abbrev n : ℕ
    n = swap_slot x.block

    abbrev g : Page
    g = Private (proc q.0) v

    reads : x.direction ≡ reading (role.Come q address)
    reads = legal.row.reads ∙ ap reading is

    pub come_own : page_by config a.map q.0 v ≡ Some in_ok_on.page
    come_own = (facts (role.Come q address) reads).1.1

    pub come_there : q.0 < length config.procs
    come_there = (mapped_right config a q.0 v in_ok_on.page right come_own).3.process

    pub come_lies : a.lies in_ok_on.page ≡ Some (block.Swap (proc q.0) n)
    come_lies = go (facts (role.Come q address) reads).0
      where
        its : x.block ≡ block.Swap q n
        its = let fact = ((facts (role.Come q address) reads).1.2).1 in fact ∙ ap (block.Swap q) (sym (ap swap_slot fact))

        go : FitsRead x (role.Come q address) in_ok_on.page (page_view config a in_ok_on.page) → a.lies in_ok_on.page ≡ Some (block.Swap q n)
        go (inl lies) = lies ∙ ap Some its
        go (inr first) = absurd (false≢true first.fault)

    pub come_swap : IsSwapped a.lies a.status a.ring a.state a.page in_ok_on.page q.0 n
    come_swap = kept.swapped in_ok_on.page q.0 n come_lies

    pub come_page : in_ok_on.page ≡ g
    come_page = own_is config a.map q.0 v in_ok_on.page come_own (is_of_private q.0 in_ok_on.page come_swap.own)

    -- the slot is empty
    pub come_empty : slice_get (a.ring q.0).slots n ≡ Some None
    come_empty = go (slice_get (a.ring q.0).slots n) refl come_swap.slot
      where
        none : count_by (has_vpn v) (a.ring q.0).slots ≡ 0
        none = (kept.entries q.0 v).slots ∙ no_entries config (past_view past) a f.0 q.0 v in_ok_on.page kept in_ok_on.holds in_ok_on.shares come_own

        go : (o : Option (Option Held)) → slice_get (a.ring q.0).slots n ≡ o → FitsSlot q.0 (slot_of (slice_get (a.ring q.0).slots n)) in_ok_on.page → slice_get (a.ring q.0).slots n ≡ Some None
        go None at fits = let within = slice_get-get_or (a.ring q.0).slots n None come_swap.within in absurd (none-some _ (sym at ∙ within))
        go (Some None) at fits = at
        go (Some (Some held)) at fits =
            let there : FitsSlot q.0 (Some held) g = subst₂ (λ (o : Option (Option Held)) (h : Page). FitsSlot q.0 (slot_of o) h) at come_page fits in
            let whole = count_written (has_vpn v) (a.ring q.0).slots n (Some held) None at in
            let one = ap (λ (b : Bool). cond {A = ℕ} b 1 0) (eq-eqb held.vpn v there.1) in
            absurd (omega (arith, whole, one, none))

    come_put : IsPut (a.ring q.0) (slotted (a.ring q.0) n v) n v
    come_put = record { within = come_swap.within; empty = come_empty; slots = refl }

    pub in_ok_come_parts : (y : ProcessRow) → y ≡ slice_index_or parts.processes q.0 y
        → (frames' : Frames)
        → frames'.rows ≡ slice_set (parts.frames).rows f.0 (record (row_of parts.frames f.0) {
          state = state.Active;
          modify = true;
          refs = counted_references ((row_of parts.frames f.0).shares + 1) 0 + uncounted (row_of parts.frames f.0);
          shares = (row_of parts.frames f.0).shares + 1;
          slot = swap_slot (legal.row.flight).block;
          flights = 0;
        })
        → frames'.free ≡ (parts.frames).free → frames'.modified ≡ (parts.frames).modified
        → (pte : Pte) → pte_in parts.tables q.0 (page_number address.0) ≡ Some pte
        → (tables' : PageTables) → tables'.procs ≡ (parts.tables).procs → ((p w : ℕ) → pte_in tables' p w ≡ changed_at (pte_in parts.tables) q.0 (page_number address.0) (Some (record pte { place = place.Valid false f })) p w)
        → (c : ChargedPage) → kept_at parts.pages (Private q (page_number address.0)) ≡ Some c
        → (pages' : ChargedTable) → IsTableSet parts.pages pages' (Private q (page_number address.0)) (Some (record c { lies = None }))
        → (swaps' : SwapTable) → swaps'.procs ≡ (parts.swaps).procs → ((p m : ℕ) → swapped_at swaps' p m ≡ changed_at (swapped_at parts.swaps) q.0 (swap_slot (legal.row.flight).block) None p m)
        → (b : ℕ) → b ≡ slice_index_or parts.busy seat.0 b
        → PartsFit config (e ∷ past) (after config past a e) (record parts {
          frames = frames';
          starts = slice_set parts.starts f.0 None;
          roles = slice_set parts.roles f.0 None;
          processes = slice_set parts.processes q.0 (record y { ring = slotted y.ring (swap_slot (legal.row.flight).block) (page_number address.0) });
          tables = tables';
          pages = pages';
          swaps = swaps';
          busy = slice_set parts.busy seat.0 (b - 1);
          in_flight = parts.in_flight - 1;
        })
    in_ok_come_parts y read frames' rows free modified pte pte_read tables' procs changed c kept_of pages' pages_changed swaps' swaps_procs swaps_changed b read_b =
        by_direction _ (reading (role.Come q address)) reads (subst (λ (o : Option Page). PartsFit config (e ∷ past) (put_back o) (record parts {
          frames = frames';
          starts = slice_set parts.starts f.0 None;
          roles = slice_set parts.roles f.0 None;
          processes = slice_set parts.processes q.0 (record y { ring = slotted y.ring n v });
          tables = tables';
          pages = pages';
          swaps = swaps';
          busy = slice_set parts.busy seat.0 (b - 1);
          in_flight = parts.in_flight - 1;
        })) (sym (in_ok_on.holds ∙ ap Some come_page)) (record {
          frames = read_in_frames config (past_view past) a flights rest f.0 q.0 v new n true kept in_ok_on come_own come_put parts.frames frames' fit.frames (rows ∙ ap row_with (sym come_page)) free modified;
          flights = landed_flights;
          processes = processes q.0 new y (slotted y.ring n v) come_there y_is (ap (λ (z : ProcessRow). slotted z.ring n v) y_is);
          spoken = fit.spoken;
          tables = read_in_tables config (past_view past) a flights rest f.0 q.0 v new n true kept in_ok_on come_own come_put (at_page a.lies g None)
              (λ p w apart h h_is. ap (at_page a.lies g None) h_is ∙ (away (Private (proc p) w) apart ∙ ap a.lies (sym h_is))) (length config.procs) parts.tables tables' pte fit.tables pte_read procs changed;
          sections = fit.sections;
          pages = pages_nowhere a.lies (at_page a.lies g None) q.0 v (lies_same a.lies g None) away a.charged a.touched a.assigned config parts.pages pages' c fit.pages kept_of pages_changed;
          globals = subst (λ (h : Page). GlobalsFit config a.page (valid_at q.0 v f.0 ∷ a.valid) (shared_in config h parts.globals)) come_page
              (globals_shared config (past_view past) a (valid_at q.0 v f.0 ∷ a.valid) f.0 in_ok_on.page parts.globals kept right.held in_ok_on.holds
              (others_share config (past_view past) a flights rest f.0 q.0 v new n true kept in_ok_on come_own come_put) (one_more config (past_view past) a flights rest f.0 q.0 v new n true kept in_ok_on come_own come_put) fit.globals);
          file = fit.file;
          swaps = swaps_cleared a.lies (at_page a.lies g None) q.0 v (lies_same a.lies g None) away n (length config.procs) parts.swaps swaps' fit.swaps (ap a.lies (sym come_page) ∙ come_lies) swaps_procs swaps_changed;
          seats = landed_seats b read_b;
          failed = none_fails;
        }))
      where
        new : Ring
        new = slotted (a.ring q.0) n v

        y_is : y ≡ row q.0
        y_is = process_read row (length config.procs) parts.processes q.0 y fit.processes come_there read

        away : (h : Page) → same_page g h ≡ false → at_page a.lies g None h ≡ a.lies h
        away h apart = lies_other a.lies g h None (apart_back g h apart)

        put_back : Option Page → Pager
        put_back o = record a {
          state = at_number a.state f.0 state.Active;
          modify = at_number a.modify f.0 true;
          ring = at_number a.ring q.0 (slotted (a.ring q.0) n v);
          valid = valid_at q.0 v f.0 ∷ a.valid;
          lies = lies_nowhere a.lies o;
        }

        row_with : Page → List Row
        row_with h = slice_set (parts.frames).rows f.0 (record (row_of parts.frames f.0) {
          state = state.Active;
          modify = true;
          refs = counted_references ((row_of parts.frames f.0).shares + 1) 0 + uncounted (row_of parts.frames f.0);
          shares = (row_of parts.frames f.0).shares + 1;
          slot = page_slot h n;
          flights = 0;
        })
