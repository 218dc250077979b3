-- EVICT: the parts afterwards, for each of the five reasons.
use Rattle.std.proofs.Common.{◌≡◌, ℕ, ◌+◌, ◌-◌, ◌<◌, Bool, true, false, cond, List, ◌∷◌, Some, None, length, nat_eq, count_by, slice_set, slice_index_or, refl, sym, ap, ap₂, ◌∙◌, subst, arith, ◌⊎◌, inl, inr, ◌≤◌, slice_get}
use Rattle.std.specs.Prelude.{◌==◌, if◌then◌else◌}
use Rattle.std.proofs.lemmas.Bool.{ne_eqb, eq-eqb}
use Rattle.vm_types.specs.PagePlaces.{changed_at}
use Rattle.vm_types.specs.Ring.{Ring}
use Rattle.vm_types.specs.declared.config.Config.{Config}
use Rattle.vm_types.specs.declared.names.FrameState.{FrameState}
use Rattle.vm_types.specs.declared.names.FrameState.TheVariants as state
use Rattle.vm_types.specs.declared.names.Page.{Page}
use Rattle.vm_types.specs.declared.names.Page.TheVariants.{Private, Shared}
use Rattle.vm_types.specs.declared.names.Addr.{Addr}
use Rattle.vm_types.specs.declared.names.Pfn.{Pfn}
use Rattle.vm_types.specs.declared.names.Proc.{Proc}
use Rattle.vm_types.specs.declared.names.Seat.{Seat}
use Rattle.vm_journal.specs.declared.entry.Entry.{Entry}
use Rattle.vm_journal.specs.declared.entry.EvictWhy.{EvictWhy}
use Rattle.vm_journal.specs.declared.entry.What.TheVariants as what
use Rattle.std.specs.Option.{option_map}
use Rattle.global_pages.specs.GlobalPages.{GlobalPages}
use Rattle.working_set.specs.Slots.{pin_at}
use Rattle.state_parts.specs.Victim.{slot_given}
use Rattle.state_parts.specs.declared.process_row.ProcessRow.{ProcessRow}
use Rattle.page_tables.specs.PageTables.{PageTables, pte_in}
use Rattle.pfn_database.specs.Frames.{Frames, row_of}
use Rattle.pfn_database.specs.Rows.{counted_references, uncounted}
use Rattle.pfn_database.specs.declared.row.Row.{Row}
use Rattle.pte_forms.specs.declared.pte.Pte.{Pte}
use Rattle.pager_model.specs.Around.{past_view, quiet}
use Rattle.pager_model.specs.Changes.{pushed_if, without_entry}
use Rattle.pager_model.specs.Evict.{IsEvicted, evicted_ring, evicted_to}
use Rattle.pager_model.specs.Flights.{Flight, open_flights}
use Rattle.pager_model.specs.Lookups.{has_vpn, is, is_entry, page_by, shares}
use Rattle.pager_model.specs.Maps.{page_number, proc}
use Rattle.pager_model.specs.OfConfig.{HoldsRight, IsOfConfig}
use Rattle.pager_model.specs.Pager.{Pager, Valid}
use Rattle.pager_model.specs.Sets.{at_number}
use Rattle.pager_model.specs.Step.{IsLegal, after}
use Rattle.pager_model.specs.Transfers.{reads_on, writes_on}
use Rattle.pager_rules.proofs.Basics.{at_number_other, at_number_same, nat_eq_refl}
use Rattle.pager_rules.proofs.Lists.{count_removed_no, count_removed_yes, count_written}
use Rattle.pager_rules.proofs.Pages.{own_is}
use Rattle.pager_rules.proofs.Quiet.{no_failure}
use Rattle.pager_rules.proofs.Turns.{calm, no_reuse}
use Rattle.pager_rules.specs.Kept.{IsKept}
use Rattle.pager_laws.proofs.Holders.{holder_there, holds_within}
use Rattle.pager_laws.proofs.EntryPages.{entry_page, gone_here, gone_there, mapped_right, mapped_there, only_entry, own_frame}
use Rattle.state_fits.specs.Changes.{place_left, unshared_in}
use Rattle.state_fits.specs.Entries.{TablesFit, pte_of}
use Rattle.state_fits.specs.Frames.{FramesFit, frame_pins, frame_row, row_by, slot_for}
use Rattle.state_fits.specs.Globals.{GlobalsFit}
use Rattle.state_fits.specs.Parts.{Parts}
use Rattle.state_fits.specs.PartsFit.{PartsFit}
use Rattle.state_fits.specs.Processes.{process_row}
use Rattle.state_fits.proofs.FrameRows.{over_pins, row_is, row_read, row_stays}
use Rattle.state_fits.proofs.GlobalShares.{globals_unshared}
use Rattle.state_fits.proofs.ShownEntries.{pte_stays}
use Rattle.state_fits.proofs.KnownEntries.{placed_at, pte_left, pte_valid}
use Rattle.state_fits.proofs.PinsLeft.{pins_elsewhere, pins_left}
use Rattle.state_fits.proofs.PartsSet.{frames_set, process_read, processes_set, tables_set}
use Rattle.state_fits.proofs.RingSlots.{slot_gone, slot_stays}
use Rattle.state_fits.proofs.WhyEvicted.{IsGivenUp, given_up, pin_given}

-- the row of a frame for which one valid entry less is there, whose page was pinned or wasn't
abbrev pub left_row : Bool → Row → Row
left_row pinned row = record row {
  state = evicted_to row.shares row.flights row.modify;
  refs = counted_references (row.shares - 1) row.flights + (if pinned then uncounted row - 1 else uncounted row);
  shares = row.shares - 1;
  slot = if row.shares == 1 then 0 else row.slot;
}

less_pins : (pinned : Bool) (old new : ℕ) → old ≡ cond {A = ℕ} pinned 1 0 + new → cond pinned (old - 1) old ≡ new
less_pins true old new is = omega (arith, is)
less_pins false old new is = omega (arith, is)

-- the page's slot is empty now
module _ (config : Config) (past : List Entry) (a : Pager) (p v f slot : ℕ) (to : FrameState) (kept : IsKept config (quiet (open_flights past)) a) (legal : IsEvicted past a p v f slot to)
    (new : Ring) (emptied : new.slots ≡ slice_set (a.ring p).slots slot None) where
  abbrev fewer : List Valid
  fewer = without_entry a.valid p v

  abbrev its : (g : Page) × (page_by config a.map p v ≡ Some g) × (a.page (legal.taken.entry).frame ≡ Some g)
  its = entry_page config (quiet (open_flights past)) a p v legal.taken.entry kept legal.taken.valid

  holds : a.page f ≡ Some its.0
  holds = subst (λ (g : ℕ). a.page g ≡ Some its.0) legal.taken.frame its.2

  pub one_share : shares a.valid f ≡ 1 + shares fewer f
  one_share = count_removed_yes (λ (y : Valid). nat_eq y.frame f) (is_entry p v) a.valid legal.taken.entry legal.taken.valid (kept.entries p v).once
      (subst (λ (g : ℕ). nat_eq legal.taken.entry.frame g ≡ true) legal.taken.frame (nat_eq_refl legal.taken.entry.frame))

  shares_there : (g : ℕ) → (f ≡ g → ⊥) → shares fewer g ≡ shares a.valid g
  shares_there g apart = count_removed_no (λ (y : Valid). nat_eq y.frame g) (is_entry p v) a.valid legal.taken.entry legal.taken.valid (kept.entries p v).once
      (ne_eqb legal.taken.entry.frame g (λ same. apart (sym legal.taken.frame ∙ same)))

  no_slot : count_by (has_vpn v) new.slots ≡ 0
  no_slot =
      let whole = count_written (has_vpn v) (a.ring p).slots slot (Some legal.held) None legal.holds in
      let held = ap (λ (b : Bool). cond {A = ℕ} b 1 0) (eq-eqb (legal.held).vpn v legal.same) in
      ap (count_by (has_vpn v)) emptied ∙ omega (arith, whole, held, (kept.entries p v).slots, (kept.entries p v).once)

  -- ---- the frames
  slot_here : cond (nat_eq (shares a.valid f) 1) 0 (slot_for a.ring (a.page f)) ≡ slot_for (at_number a.ring p new) (a.page f)
  slot_here = rw holds (by its.0 its.1 holds)
    where
      none : (b : Bool) → cond {A = ℕ} b 0 0 ≡ 0
      none true = refl
      none false = refl

      by : (g : Page) → page_by config a.map p v ≡ Some g → a.page f ≡ Some g → cond (nat_eq (shares a.valid f) 1) 0 (slot_for a.ring (Some g)) ≡ slot_for (at_number a.ring p new) (Some g)
      by (Shared s i) own held = none (nat_eq (shares a.valid f) 1)
      by (Private q w) own held =
          let same = own_is config a.map p v (Private q w) own refl in
          let alone = only_entry config a.map a.page a.valid p v f (held ∙ ap Some same) kept.valid in
          let one : shares a.valid f ≡ 1 = omega (arith, one_share, alone) in
          rw (eq-eqb _ _ one) (sym (ap (λ (g : Page). slot_for (at_number a.ring p new) (Some g)) same ∙ slot_gone a.ring p v new no_slot))

  row_here : left_row (legal.held).pinned (row_by (a.state f) (a.page f) (a.modify f) (shares a.valid f) (reads_on f (open_flights past) + writes_on f (open_flights past)) (slot_for a.ring (a.page f)) (frame_pins a.valid a.ring f))
      ≡ row_by (at_number a.state f to f) (a.page f) (a.modify f) (shares fewer f) (reads_on f (open_flights past) + writes_on f (open_flights past)) (slot_for (at_number a.ring p new) (a.page f)) (frame_pins fewer (at_number a.ring p new) f)
  row_here =
      let state_is = at_number_same a.state f to ∙ legal.taken.goes in
      let less : shares a.valid f - 1 ≡ shares fewer f = omega (arith, one_share) in
      let left = pins_left a.valid a.ring p v f slot legal.taken.entry legal.held new legal.taken.valid (kept.entries p v).once legal.taken.frame legal.holds legal.same emptied no_slot in
      let over = ap (λ (n : ℕ). cond (legal.held).pinned (n - 1) n) (over_pins (counted_references (shares a.valid f) (reads_on f (open_flights past) + writes_on f (open_flights past))) (frame_pins a.valid a.ring f)) ∙ less_pins (legal.held).pinned _ _ left in
      λ i. record {
        state = sym state_is i;
        page = a.page f;
        modify = a.modify f;
        refs = counted_references (less i) (reads_on f (open_flights past) + writes_on f (open_flights past)) + over i;
        shares = less i;
        slot = slot_here i;
        flights = reads_on f (open_flights past) + writes_on f (open_flights past);
      }

  row_there : (g : ℕ) → (f ≡ g → ⊥) → frame_row (at_number a.state f to) a.page a.modify fewer (at_number a.ring p new) (open_flights past) g ≡ frame_row a.state a.page a.modify a.valid a.ring (open_flights past) g
  row_there g apart = row_stays a.state a.page a.modify a.valid a.ring (open_flights past) (at_number a.state f to) a.page a.modify fewer (at_number a.ring p new) g
      (at_number_other a.state f to g apart) refl refl (shares_there g apart)
      (slot_stays a.ring p new slot (Some legal.held) None legal.holds emptied (a.page g)
      (λ w at. (ne_eqb (legal.held).vpn w (λ same. apart (own_frame config (quiet (open_flights past)) a p v f g its.0 kept its.1 holds (at ∙ ap (λ (u : ℕ). Some (Private (proc p) u)) (sym same ∙ legal.same)))), refl)))
      (pins_elsewhere a.valid a.ring p v f slot legal.taken.entry legal.held new legal.taken.valid (kept.entries p v).once legal.taken.frame legal.holds legal.same emptied no_slot g apart)

  frames_left : (old now : Frames) → FramesFit (frame_row a.state a.page a.modify a.valid a.ring (open_flights past)) config.frames a.free a.modified old → f < config.frames
      → now.rows ≡ slice_set old.rows f (left_row (legal.held).pinned (row_of old f))
      → now.free ≡ pushed_if (is state.Free (left_row (legal.held).pinned (row_of old f)).state) old.free f
      → now.modified ≡ pushed_if (is state.Modified (left_row (legal.held).pinned (row_of old f)).state) old.modified f
      → FramesFit (frame_row (at_number a.state f to) a.page a.modify fewer (at_number a.ring p new) (open_flights past)) config.frames (pushed_if (is state.Free to) a.free f) (pushed_if (is state.Modified to) a.modified f) now
  frames_left old now fit below rows free modified =
      let read = row_read a.state a.page a.modify a.valid a.ring (open_flights past) config.frames a.free a.modified old f fit in
      let goes : (left_row (legal.held).pinned (row_of old f)).state ≡ to = ap (λ (row : Row). (left_row (legal.held).pinned row).state) read ∙ sym legal.taken.goes in
      frames_set _ _ config.frames a.free _ a.modified _ old now f (left_row (legal.held).pinned (row_of old f)) fit below rows
      (free ∙ ap₂ (λ (s : FrameState) (xs : List ℕ). pushed_if (is state.Free s) xs f) goes fit.free_list)
      (modified ∙ ap₂ (λ (s : FrameState) (xs : List ℕ). pushed_if (is state.Modified s) xs f) goes fit.modified_list)
      (ap (left_row (legal.held).pinned) read ∙ (row_here ∙ sym (row_is (at_number a.state f to) a.page a.modify fewer (at_number a.ring p new) (open_flights past) f)))
      row_there

  -- ---- the page tables
  tables_left : (old now : PageTables) (pte : Pte) (g : Page) → TablesFit (pte_of config a.map a.valid a.page a.lies) (length config.procs) old → a.page f ≡ Some g → pte_in old p v ≡ Some pte → now.procs ≡ old.procs
      → ((q w : ℕ) → pte_in now q w ≡ changed_at (pte_in old) p v (Some (record pte { place = place_left config f g })) q w)
      → TablesFit (pte_of config a.map fewer a.page a.lies) (length config.procs) now
  tables_left old now pte g fit held read procs changed =
      let own : page_by config a.map p v ≡ Some g = its.1 ∙ (sym holds ∙ held) in
      let found = mapped_there config a.map p v g own in
      let was = sym read ∙ (fit.each p v ∙ pte_valid config a.map a.valid a.page a.lies p v found.0 g found.1 found.2 legal.taken.entry legal.taken.valid) in
      let there = holder_there config (quiet (open_flights past)) a g f kept held in
      tables_set (pte_of config a.map a.valid a.page a.lies) (pte_of config a.map fewer a.page a.lies) (length config.procs) old now p v (Some (record pte { place = place_left config f g })) fit procs changed
      (placed_at pte (found.0).prot _ (place_left config f g) was ∙ sym (pte_left config a.map fewer a.page a.lies p v found.0 g found.1 found.2 f (gone_here a.valid p v) there))
      (λ q w apart. pte_stays config a.map a.valid fewer a.page a.page a.lies a.lies q w (gone_there a.valid p v q w apart) (λ h is private. (refl, refl)))

  globals_left : (table : GlobalPages) (g : Page) → HoldsRight config a.page → a.page f ≡ Some g → GlobalsFit config a.page a.valid table → GlobalsFit config a.page fewer (unshared_in config g table)
  globals_left table g right held fit = globals_unshared config (quiet (open_flights past)) a fewer f g table kept right held shares_there one_share fit

-- ---- all parts
module _ (config : Config) (past : List Entry) (a : Pager) (seat : Seat) (q : Proc) (address : Addr) (f : Pfn) (why : EvictWhy) (to : FrameState) (parts : Parts)
    (before : IsKept config (past_view past) a) (right : IsOfConfig config a)
    (legal : IsLegal config past a (record { seat = seat; what = what.Evict q address f why to })) (fit : PartsFit config past a parts) where
  abbrev v : ℕ
  v = page_number address.0

  abbrev e : Entry
  e = record { seat = seat; what = what.Evict q address f why to }

  pub kept : IsKept config (quiet (open_flights past)) a
  kept = calm config past a e legal.in_turn refl before

  pub gone : IsGivenUp past a why q.0 v f.0 to
  gone = given_up config past a q.0 address.0 f.0 to kept seat.0 why legal.row

  abbrev pub valid_there : (g : Page) × (page_by config a.map q.0 v ≡ Some g) × (a.page (gone.evicted.taken.entry).frame ≡ Some g)
  valid_there = entry_page config (quiet (open_flights past)) a q.0 v gone.evicted.taken.entry kept gone.evicted.taken.valid

  pub process : q.0 < length config.procs
  process = let found = mapped_right config a q.0 v valid_there.0 right valid_there.1 in found.3.process

  pub held : a.page f.0 ≡ Some valid_there.0
  held = subst (λ (g : ℕ). a.page g ≡ Some valid_there.0) gone.evicted.taken.frame valid_there.2

  pub below : f.0 < config.frames
  below = holds_within config (quiet (open_flights past)) a f.0 valid_there.0 kept held

  -- whether the page is pinned in its slot, as its process's row says
  pub pin_is : (x : ProcessRow) → x ≡ slice_index_or parts.processes q.0 x → pin_at x.ring (slot_given why x.ring x.limit v) ≡ (gone.evicted.held).pinned
  pin_is x read =
      let x_is = process_read (process_row a.status a.ring a.limit a.references a.faults a.collided) (length config.procs) parts.processes q.0 x fit.processes process read in
      ap (λ (y : ProcessRow). pin_at y.ring (slot_given why y.ring y.limit v)) x_is ∙ pin_given past a why q.0 v f.0 to gone

  -- then its frame has a reference for that
  pub pin_counted : (gone.evicted.held).pinned ≡ true → 0 < uncounted (row_of parts.frames f.0)
  pin_counted pinned =
      let read = row_read a.state a.page a.modify a.valid a.ring (open_flights past) config.frames a.free a.modified parts.frames f.0 fit.frames in
      let its = ap uncounted read ∙ over_pins (counted_references (shares a.valid f.0) (reads_on f.0 (open_flights past) + writes_on f.0 (open_flights past))) (frame_pins a.valid a.ring f.0) in
      let left = pins_left a.valid a.ring q.0 v f.0 gone.slot gone.evicted.taken.entry gone.evicted.held (evicted_ring why (a.ring q.0) (a.limit q.0) v) gone.evicted.taken.valid (kept.entries q.0 v).once gone.evicted.taken.frame gone.evicted.holds gone.evicted.same gone.emptied
      (no_slot config past a q.0 v f.0 gone.slot to kept gone.evicted (evicted_ring why (a.ring q.0) (a.limit q.0) v) gone.emptied) in
      let one : cond {A = ℕ} (gone.evicted.held).pinned 1 0 ≡ 1 = ap (λ (b : Bool). cond {A = ℕ} b 1 0) pinned in
      omega (arith, its, left, one)

  row_held : (g : Page) → (row_of parts.frames f.0).page ≡ Some g → a.page f.0 ≡ Some g
  row_held g is = sym (ap (λ (row : Row). row.page) (row_read a.state a.page a.modify a.valid a.ring (open_flights past) config.frames a.free a.modified parts.frames f.0 fit.frames)) ∙ is

  pub evict_parts : (x : ProcessRow) (g : Page) (pte : Pte) (frames' : Frames) (tables' : PageTables)
      → x ≡ slice_index_or parts.processes q.0 x
      → (row_of parts.frames f.0).page ≡ Some g
      → pte_in parts.tables q.0 v ≡ Some pte
      → frames'.rows ≡ slice_set parts.frames.rows f.0 (left_row (gone.evicted.held).pinned (row_of parts.frames f.0))
      → frames'.free ≡ pushed_if (is state.Free (left_row (gone.evicted.held).pinned (row_of parts.frames f.0)).state) parts.frames.free f.0
      → frames'.modified ≡ pushed_if (is state.Modified (left_row (gone.evicted.held).pinned (row_of parts.frames f.0)).state) parts.frames.modified f.0
      → tables'.procs ≡ parts.tables.procs
      → ((r w : ℕ) → pte_in tables' r w ≡ changed_at (pte_in parts.tables) q.0 v (Some (record pte { place = place_left config f.0 g })) r w)
      → PartsFit config (e ∷ past) (after config past a e) (record parts {
        frames = frames';
        processes = slice_set parts.processes q.0 (record x { ring = evicted_ring why x.ring x.limit v });
        tables = tables';
        globals = unshared_in config g parts.globals;
      })
  evict_parts x g pte frames' tables' read page entry rows free modified procs changed =
      let x_is = process_read (process_row a.status a.ring a.limit a.references a.faults a.collided) (length config.procs) parts.processes q.0 x fit.processes process read in
      let new : Ring = evicted_ring why (a.ring q.0) (a.limit q.0) v in
      record {
        frames = frames_left config past a q.0 v f.0 gone.slot to kept gone.evicted new gone.emptied parts.frames frames' fit.frames below rows free modified;
        flights = fit.flights;
        processes = processes_set (process_row a.status a.ring a.limit a.references a.faults a.collided) (process_row a.status (at_number a.ring q.0 new) a.limit a.references a.faults a.collided)
            (length config.procs) parts.processes q.0 (record x { ring = evicted_ring why x.ring x.limit v }) fit.processes process
            (ap (λ (y : ProcessRow). record y { ring = evicted_ring why y.ring y.limit v }) x_is ∙ ap (λ (r : Ring). record (process_row a.status a.ring a.limit a.references a.faults a.collided q.0) { ring = r }) (sym (at_number_same a.ring q.0 new)))
            (λ r apart. ap (λ (k : Ring). record (process_row a.status a.ring a.limit a.references a.faults a.collided r) { ring = k }) (at_number_other a.ring q.0 new r apart));
        spoken = record { count = fit.spoken.count; each = fit.spoken.each };
        tables = tables_left config past a q.0 v f.0 gone.slot to kept gone.evicted new gone.emptied parts.tables tables' pte g fit.tables (row_held g page) entry procs changed;
        sections = fit.sections;
        pages = fit.pages;
        globals = globals_left config past a q.0 v f.0 gone.slot to kept gone.evicted new gone.emptied parts.globals g right.held (row_held g page) fit.globals;
        file = fit.file;
        swaps = fit.swaps;
        seats = fit.seats;
        failed = fit.failed ∙ ap (option_map (λ (x : Flight). x.block)) (no_failure past (no_reuse config past e legal.in_turn refl));
      }
