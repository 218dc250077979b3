-- OUT: a write begins, of the modified list's head or of a leaving process's page.
use Rattle.std.proofs.Common.{◌≡◌, ℕ, ◌+◌, ◌<◌, false, List, ◌∷◌, Option, Some, None, length, nat_eq, slice_set, slice_index_or, refl, sym, ap, ◌∙◌, subst, inl, inr, arith}
use Rattle.std.proofs.lemmas.Bool.{eq-eqb, false≢true}
use Rattle.vm_types.specs.declared.config.Config.{Config}
use Rattle.vm_types.specs.declared.names.BlockId.{BlockId}
use Rattle.vm_types.specs.declared.names.BlockId.TheVariants as block
use Rattle.vm_types.specs.declared.names.FrameState.{FrameState}
use Rattle.vm_types.specs.declared.names.FrameState.TheVariants as state
use Rattle.vm_types.specs.declared.names.Page.{Page}
use Rattle.vm_types.specs.declared.names.Pfn.{Pfn}
use Rattle.vm_types.specs.declared.names.Proc.{Proc}
use Rattle.vm_types.specs.declared.names.Seat.{Seat}
use Rattle.vm_journal.specs.declared.entry.Entry.{Entry}
use Rattle.vm_journal.specs.declared.entry.What.TheVariants as what
use Rattle.page_lists.specs.Lists.{without}
use Rattle.pfn_database.specs.Frames.{Frames, row_of}
use Rattle.pfn_database.specs.Rows.{counted_references, uncounted, state_in_transfer}
use Rattle.pfn_database.specs.declared.row.Row.{Row}
use Rattle.state_parts.specs.ChargedTable.{ChargedTable, IsTableSet, kept_at}
use Rattle.pager_laws.proofs.OutOkKept.{shared_block}
use Rattle.pager_model.specs.Around.{frame_view, past_view}
use Rattle.pager_model.specs.Flights.{Flight, awaits_reuse, open_flights, writing}
use Rattle.pager_model.specs.Lookups.{is, is_entry}
use Rattle.pager_model.specs.Out.{IsAnyOut, IsOut, IsOutBlock, IsOutSwap, after_any_out, assigned_with}
use Rattle.pager_model.specs.Pager.{Assigned, Pager, Valid}
use Rattle.pager_model.specs.Sets.{at_number}
use Rattle.pager_model.specs.Step.{after, IsLegal}
use Rattle.pager_model.specs.Transfers.{reads_on, writes_on}
use Rattle.pager_rules.proofs.Basics.{at_number_other, at_number_same}
use Rattle.pager_rules.proofs.Frames.{active_frame, modified_frame}
use Rattle.pager_rules.proofs.Lists.{count_found}
use Rattle.pager_rules.proofs.Put.{head_counts, modified_row}
use Rattle.pager_rules.proofs.Turns.{no_reuse}
use Rattle.pager_rules.specs.Kept.{IsKept, one_if}
use Rattle.pager_laws.proofs.Holders.{holds_within, without_absent}
use Rattle.state_fits.specs.File.{FileFits, owner_in}
use Rattle.state_fits.specs.Frames.{frame_row}
use Rattle.state_fits.specs.Pages.{PagesFit, charged_row}
use Rattle.state_fits.specs.Parts.{Parts}
use Rattle.state_fits.specs.PartsFit.{PartsFit}
use Rattle.state_fits.specs.Writes.{block_taken, given_row}
use Rattle.state_fits.proofs.FlightsMoved.{flights_begun, seats_begun}
use Rattle.state_fits.proofs.GivenBlocks.{given_block}
use Rattle.state_fits.proofs.PartsSet.{pages_kept}
use Rattle.state_fits.proofs.SimpleParts.{none_failed}
use Rattle.state_fits.proofs.WriteBegun.{write_begun}

-- a frame that may be written: the page that it holds, how its state changes, and no flight is open on it
pub record IsWritable (config : Config) (a : Pager) (flights : List Flight) (f : ℕ) (x : Page) (state_of : ℕ → FrameState) (modified : List ℕ) : Type 0 where
  pub within : f < config.frames
  pub holds : a.page f ≡ Some x
  pub still : reads_on f flights + writes_on f flights ≡ 0
  pub here : state_of f ≡ state_in_transfer (a.state f)
  pub there : (h : ℕ) → (f ≡ h → ⊥) → state_of h ≡ a.state h
  pub lists : without a.modified f ≡ modified

pub listed_writable : (config : Config) (past : List Entry) (a : Pager) (f : ℕ) (d : BlockId) → IsKept config (past_view past) a → (legal : IsOut config past a f d)
    → IsWritable config a (open_flights past) f legal.page (at_number a.state f state.Writing) (without a.modified f)
listed_writable config past a f d kept legal =
    let view = frame_view config (past_view past) a f in
    let listed = head_counts a.modified f legal.head in
    let row = modified_row view (kept.frames f) listed in
    let reads = row.reads in
    let writes = row.writes in
    record {
      within = holds_within config (past_view past) a f legal.page kept legal.holds;
      holds = legal.holds;
      still = omega (arith, reads, writes);
      here = at_number_same a.state f state.Writing ∙ sym (ap state_in_transfer (modified_frame view (kept.frames f) listed));
      there = λ h apart. at_number_other a.state f state.Writing h apart;
      lists = refl;
    }

pub swap_active : (config : Config) (past : List Entry) (a : Pager) (f : ℕ) (d : BlockId) → IsKept config (past_view past) a → IsOutSwap config past a f d → a.state f ≡ state.Active
swap_active config past a f d kept legal =
    active_frame (frame_view config (past_view past) a f) (kept.frames f) (count_found (λ (y : Valid). nat_eq y.frame f) (is_entry legal.p legal.v) a.valid legal.entry legal.valid (eq-eqb _ _ legal.frame))

pub swap_writable : (config : Config) (past : List Entry) (a : Pager) (f : ℕ) (d : BlockId) → IsKept config (past_view past) a → (legal : IsOutSwap config past a f d)
    → IsWritable config a (open_flights past) f legal.page a.state a.modified
swap_writable config past a f d kept legal =
    let was = swap_active config past a f d kept legal in
    record {
      within = holds_within config (past_view past) a f legal.page kept legal.holds;
      holds = legal.holds;
      still = legal.still;
      here = was ∙ sym (ap state_in_transfer was);
      there = λ h apart. refl;
      lists = without_absent a.modified f ((kept.frames f).on_modified ∙ ap (λ (s : FrameState). one_if (is state.Modified s)) was);
    }

module _ (parts : Parts) (start seat f : ℕ) (d : BlockId) (g : Page) where
  abbrev row : Row
  row = row_of parts.frames f

  -- what the calls give
  pub record IsOutDone (frames' : Frames) (n : ℕ) (pages' : ChargedTable) : Type 0 where
    pub rows : frames'.rows ≡ slice_set (parts.frames).rows f (record row { state = state_in_transfer row.state; modify = false; refs = counted_references row.shares 1 + uncounted row; flights = 1 })
    pub free : frames'.free ≡ (parts.frames).free
    pub modified : frames'.modified ≡ without (parts.frames).modified f
    pub busy : n ≡ slice_index_or parts.busy seat n
    pub page : row.page ≡ Some g
    pub pages : IsTableSet parts.pages pages' g (given_row d (kept_at parts.pages g))

  abbrev parts_out : Frames → ℕ → ChargedTable → Parts
  parts_out frames' n pages' = record parts {
    frames = frames';
    starts = slice_set parts.starts f (Some start);
    roles = slice_set parts.roles f None;
    pages = pages';
    file = block_taken d g (kept_at parts.pages g) parts.file;
    busy = slice_set parts.busy seat (n + 1);
    in_flight = parts.in_flight + 1;
  }

module _ (config : Config) (past : List Entry) (a : Pager) (seat : Seat) (f : Pfn) (kept : IsKept config (past_view past) a) (parts : Parts) (fit : PartsFit config past a parts) where
  pub row_page : (row_of parts.frames f.0).page ≡ a.page f.0
  unfolding frame_row
  row_page = ap (λ (r : Row). r.page) (fit.frames.rows f.0)

module _ (config : Config) (past : List Entry) (a : Pager) (seat : Seat) (f : Pfn) (kept : IsKept config (past_view past) a) (parts : Parts) (fit : PartsFit config past a parts) where
  abbrev entry : BlockId → Entry
  entry d = record { seat = seat; what = what.Out f d }

  begun_parts : (d : BlockId) (g : Page) (frames' : Frames) (n : ℕ) (pages' : ChargedTable) → IsOutDone parts (length past + 1) seat.0 f.0 d g frames' n pages' → awaits_reuse past ≡ false → seat.0 < length config.procs + 2
      → (x : Page) (state_of : ℕ → FrameState) (modified : List ℕ) (more : List Assigned) → IsWritable config a (open_flights past) f.0 x state_of modified
      → PagesFit config (charged_row a.charged a.touched a.lies more) pages'
      → FileFits (length a.charged) (length more) (owner_in more) config.pagefile (block_taken d g (kept_at parts.pages g) parts.file)
      → PartsFit config (entry d ∷ past) (record a { state = state_of; modify = at_number a.modify f.0 false; modified = modified; assigned = more }) (parts_out parts (length past + 1) seat.0 f.0 d g frames' n pages')
  begun_parts d g frames' n pages' done calm there x state_of modified more writable pages file =
      let begun : Flight = record { start = length past + 1; seat = seat.0; frame = f.0; block = d; direction = writing } in
      record {
        frames = write_begun a.state state_of a.page a.modify a.valid a.ring (open_flights past) (length past + 1) seat.0 f.0 d writable.still writable.here writable.there
            config.frames a.free a.modified modified parts.frames frames' fit.frames writable.within done.rows done.free done.modified writable.lists;
        flights = flights_begun (open_flights past) config.frames begun parts.starts parts.roles fit.flights writable.within;
        processes = fit.processes;
        spoken = fit.spoken;
        tables = fit.tables;
        sections = fit.sections;
        pages = pages;
        globals = fit.globals;
        file = file;
        swaps = fit.swaps;
        seats = seats_begun (open_flights past) (length config.procs + 2) begun parts.busy parts.in_flight n fit.seats there done.busy;
        failed = none_failed past parts calm fit.failed;
      }

  -- the page that the frame holds
  held_page : (d : BlockId) (g : Page) (frames' : Frames) (n : ℕ) (pages' : ChargedTable) → IsOutDone parts (length past + 1) seat.0 f.0 d g frames' n pages' → a.page f.0 ≡ Some g
  held_page d g frames' n pages' done = sym (row_page config past a seat f kept parts fit) ∙ done.page

  -- of the modified list's head
  listed_parts : (d : BlockId) (g : Page) (frames' : Frames) (n : ℕ) (pages' : ChargedTable) → IsOutDone parts (length past + 1) seat.0 f.0 d g frames' n pages' → awaits_reuse past ≡ false → seat.0 < length config.procs + 2 → IsOut config past a f.0 d
      → PartsFit config (entry d ∷ past) (record a { state = at_number a.state f.0 state.Writing; modify = at_number a.modify f.0 false; modified = without a.modified f.0; assigned = assigned_with a.assigned (a.page f.0) d }) (parts_out parts (length past + 1) seat.0 f.0 d g frames' n pages')
  listed_parts d g frames' n pages' done calm there legal =
      let holds = held_page d g frames' n pages' done in
      let page : legal.page ≡ g = let other = legal.holds in cc in
      let given = given_block config (past_view past) a f.0 kept parts.pages fit.pages parts.file fit.file d g pages' holds (subst (IsOutBlock config a d) page legal.block) done.pages in
      begun_parts d g frames' n pages' done calm there legal.page (at_number a.state f.0 state.Writing) (without a.modified f.0) (assigned_with a.assigned (a.page f.0) d) (listed_writable config past a f.0 d kept legal)
      (subst (λ (o : Option Page). PagesFit config (charged_row a.charged a.touched a.lies (assigned_with a.assigned o d)) pages') (sym holds) given.0)
      (subst (λ (o : Option Page). FileFits (length a.charged) (length (assigned_with a.assigned o d)) (owner_in (assigned_with a.assigned o d)) config.pagefile (block_taken d g (kept_at parts.pages g) parts.file)) (sym holds) given.1)

  -- of a leaving process's page
  swap_parts : (q : Proc) (i : ℕ) (g : Page) (frames' : Frames) (n : ℕ) (pages' : ChargedTable) → IsOutDone parts (length past + 1) seat.0 f.0 (block.Swap q i) g frames' n pages' → awaits_reuse past ≡ false → seat.0 < length config.procs + 2 → IsOutSwap config past a f.0 (block.Swap q i)
      → PartsFit config (entry (block.Swap q i) ∷ past) (record a { modify = at_number a.modify f.0 false }) (parts_out parts (length past + 1) seat.0 f.0 (block.Swap q i) g frames' n pages')
  swap_parts q i g frames' n pages' done calm there legal =
      begun_parts (block.Swap q i) g frames' n pages' done calm there legal.page a.state a.modified a.assigned (swap_writable config past a f.0 (block.Swap q i) kept legal)
      (pages_kept config (charged_row a.charged a.touched a.lies a.assigned) parts.pages pages' g (kept_at parts.pages g) fit.pages done.pages (fit.pages.each g)) fit.file

  pub out_parts : (d : BlockId) (g : Page) → IsLegal config past a (entry d) → (frames' : Frames) (n : ℕ) (pages' : ChargedTable) → IsOutDone parts (length past + 1) seat.0 f.0 d g frames' n pages'
      → PartsFit config (entry d ∷ past) (after config past a (entry d)) (parts_out parts (length past + 1) seat.0 f.0 d g frames' n pages')
  out_parts d g legal frames' n pages' done = go d legal done legal.row
    where
      there : (d : BlockId) → IsLegal config past a (entry d) → seat.0 < length config.procs + 2
      there d legal = let few = legal.line.seat in omega (arith, few)

      calm : (d : BlockId) → IsLegal config past a (entry d) → awaits_reuse past ≡ false
      calm d legal = no_reuse config past (entry d) legal.in_turn refl

      go : (d : BlockId) → IsLegal config past a (entry d) → IsOutDone parts (length past + 1) seat.0 f.0 d g frames' n pages' → IsAnyOut config past a f.0 d → PartsFit config (entry d ∷ past) (after_any_out a f.0 d) (parts_out parts (length past + 1) seat.0 f.0 d g frames' n pages')
      go (block.Section s i) legal done (inl out) = listed_parts (block.Section s i) g frames' n pages' done (calm (block.Section s i) legal) (there (block.Section s i) legal) out
      go (block.PageFile b) legal done (inl out) = listed_parts (block.PageFile b) g frames' n pages' done (calm (block.PageFile b) legal) (there (block.PageFile b) legal) out
      go (block.Swap q i) legal done (inl out) = absurd (no_swap out.block)
        where
          no_swap : IsOutBlock config a (block.Swap q i) out.page → ⊥
          no_swap (inl section) = false≢true (shared_block config a out.page (block.Swap q i) (kept.pages out.page) section.0 section.1)
          no_swap (inr (inl had)) = let e = had.3 in cc
          no_swap (inr (inr free)) = let e = free.3 in cc
      go (block.Section s i) legal done (inr out) = absurd (let e = out.block in cc)
      go (block.PageFile b) legal done (inr out) = absurd (let e = out.block in cc)
      go (block.Swap q i) legal done (inr out) = swap_parts q i g frames' n pages' done (calm (block.Swap q i) legal) (there (block.Swap q i) legal) out
