-- OUTOK and OUTFAIL: a write lands.
use Rattle.std.proofs.Common.{◌≡◌, ℕ, ◌+◌, ◌-◌, ◌<◌, Bool, true, false, not, ◌&&◌, ◌||◌, List, ◌∷◌, Option, Some, None, length, nat_eq, slice_set, slice_index_or, refl, sym, ap, ◌∙◌, subst, arith}
use Rattle.std.specs.Prelude.{◌==◌, if◌then◌else◌}
use Rattle.vm_types.specs.declared.config.Config.{Config}
use Rattle.vm_types.specs.declared.names.BlockId.{BlockId}
use Rattle.vm_types.specs.declared.names.FrameState.{FrameState}
use Rattle.vm_types.specs.declared.names.Page.{Page}
use Rattle.vm_types.specs.declared.names.Pfn.{Pfn}
use Rattle.vm_types.specs.declared.names.Seat.{Seat}
use Rattle.vm_journal.specs.declared.entry.Entry.{Entry}
use Rattle.vm_journal.specs.declared.entry.What.{What}
use Rattle.vm_journal.specs.declared.entry.What.TheVariants as what
use Rattle.pfn_database.specs.Frames.{Frames, row_of}
use Rattle.pfn_database.specs.Rows.{counted_references, uncounted}
use Rattle.pfn_database.specs.declared.row.Row.{Row}
use Rattle.state_parts.specs.ChargedTable.{ChargedTable, IsTableSet, kept_at}
use Rattle.state_parts.specs.SwapTable.{SwapTable, swapped_at}
use Rattle.pager_model.specs.Around.{page_view, past_view, process_view}
use Rattle.pager_model.specs.Changes.{pushed_if, settled_to}
use Rattle.pager_model.specs.Flights.{Flight, awaits_reuse, open_flights, without_flight, writing}
use Rattle.pager_model.specs.InOk.{IsLanding}
use Rattle.pager_model.specs.Lookups.{shares}
use Rattle.pager_model.specs.OutLanding.{after_out_fail, after_out_ok, lies_at}
use Rattle.pager_model.specs.Pager.{Pager}
use Rattle.pager_model.specs.Sets.{at_number}
use Rattle.pager_model.specs.Step.{after, IsLegal}
use Rattle.pager_rules.proofs.Basics.{at_number_other, at_number_same}
use Rattle.pager_rules.proofs.Quiet.{starts_once}
use Rattle.pager_rules.proofs.Turns.{no_reuse}
use Rattle.pager_rules.specs.Kept.{FitsWrite, IsKept}
use Rattle.state_fits.specs.Entries.{TablesFit, pte_of}
use Rattle.state_fits.specs.Frames.{FramesFit, frame_row}
use Rattle.state_fits.specs.Pages.{PagesFit, charged_row}
use Rattle.state_fits.specs.Parts.{Parts}
use Rattle.state_fits.specs.PartsFit.{PartsFit}
use Rattle.state_fits.specs.Seats.{FlightsFit, SeatsFit}
use Rattle.state_fits.specs.Swaps.{SwapsFit}
use Rattle.state_fits.specs.Writes.{landed_row, swaps_landed}
use Rattle.state_fits.proofs.FlightsMoved.{flights_landed_at, one_on_frame, seats_landed_at}
use Rattle.state_fits.proofs.SimpleParts.{none_failed}
use Rattle.state_fits.proofs.WriteLanded.{IsWrittenOn, write_landed, written_on}
use Rattle.state_fits.proofs.WrittenPages.{landed_pages, landed_swaps, landed_tables}

module _ (parts : Parts) (seat f : ℕ) (d : BlockId) (g : Page) where
  abbrev row : Row
  row = row_of parts.frames f

  -- what the calls give, after a write that has failed or hasn't
  pub record IsLandingDone (failed : Bool) (frames' : Frames) (n : ℕ) (pages' : ChargedTable) (swaps' : SwapTable) : Type 0 where
    pub rows : frames'.rows ≡ slice_set (parts.frames).rows f (record row {
      state = if row.shares == 0 then settled_to (failed || row.modify) else row.state;
      modify = failed || row.modify;
      refs = counted_references row.shares 0 + uncounted row;
      slot = if row.shares == 0 then 0 else row.slot;
      flights = 0;
    })
    pub free : frames'.free ≡ pushed_if ((row.shares == 0) && not (failed || row.modify)) (parts.frames).free f
    pub modified : frames'.modified ≡ pushed_if ((row.shares == 0) && (failed || row.modify)) (parts.frames).modified f
    pub busy : n ≡ slice_index_or parts.busy seat n
    pub page : row.page ≡ Some g
    pub pages : IsTableSet parts.pages pages' g (landed_row (failed || row.modify) d (kept_at parts.pages g))
    pub swap_procs : swaps'.procs ≡ (parts.swaps).procs
    pub swaps : (q m : ℕ) → swapped_at swaps' q m ≡ swaps_landed (failed || row.modify) g d (kept_at parts.pages g) (swapped_at parts.swaps) q m

  abbrev parts_landed : Frames → ℕ → ChargedTable → SwapTable → Parts
  parts_landed frames' n pages' swaps' = record parts {
    frames = frames';
    starts = slice_set parts.starts f None;
    roles = slice_set parts.roles f None;
    pages = pages';
    swaps = swaps';
    busy = slice_set parts.busy seat (n - 1);
    in_flight = parts.in_flight - 1;
  }

module _ (config : Config) (past : List Entry) (a : Pager) (seat : Seat) (f : Pfn) (k : ℕ) (x : Flight) (kept : IsKept config (past_view past) a) (lands : IsLanding past seat.0 f.0 k x) (writes : x.direction ≡ writing)
    (there : seat.0 < length config.procs + 2) (parts : Parts) (fit : PartsFit config past a parts) where
  abbrev flights : List Flight
  flights = open_flights past

  abbrev rest : List Flight
  rest = without_flight k flights

  pub landing_on : IsWrittenOn config a flights rest x f.0
  landing_on = written_on config past a seat.0 f.0 k x kept lands writes

  row_page : (row_of parts.frames f.0).page ≡ a.page f.0
  unfolding frame_row
  row_page = ap (λ (r : Row). r.page) (fit.frames.rows f.0)

  row_modify : (row_of parts.frames f.0).modify ≡ a.modify f.0
  unfolding frame_row
  row_modify = ap (λ (r : Row). r.modify) (fit.frames.rows f.0)

  -- the parts that change, for a state with this mark
  record AreLanded (m : Bool) (state_of : ℕ → FrameState) (modify : ℕ → Bool) (frames' : Frames) (n : ℕ) (pages' : ChargedTable) (swaps' : SwapTable) : Type 0 where
    frames : FramesFit (frame_row state_of a.page modify a.valid a.ring rest) config.frames (pushed_if (nat_eq (shares a.valid f.0) 0 && not m) a.free f.0) (pushed_if (nat_eq (shares a.valid f.0) 0 && m) a.modified f.0) frames'
    flights : FlightsFit rest config.frames (slice_set parts.starts f.0 None) (slice_set parts.roles f.0 None)
    tables : TablesFit (pte_of config a.map a.valid a.page (lies_at a.lies m (a.page f.0) x.block)) (length config.procs) parts.tables
    pages : PagesFit config (charged_row a.charged a.touched (lies_at a.lies m (a.page f.0) x.block) a.assigned) pages'
    swaps : SwapsFit (lies_at a.lies m (a.page f.0) x.block) (length config.procs) swaps'
    seats : SeatsFit rest (length config.procs + 2) (slice_set parts.busy seat.0 (n - 1)) (parts.in_flight - 1)

  are_landed : (failed : Bool) (g : Page) (state_of : ℕ → FrameState) (modify : ℕ → Bool) (frames' : Frames) (n : ℕ) (pages' : ChargedTable) (swaps' : SwapTable) → IsLandingDone parts seat.0 f.0 x.block g failed frames' n pages' swaps'
      → state_of f.0 ≡ (if nat_eq (shares a.valid f.0) 0 then settled_to (failed || a.modify f.0) else a.state f.0) → ((h : ℕ) → (f.0 ≡ h → ⊥) → state_of h ≡ a.state h)
      → modify f.0 ≡ (failed || a.modify f.0) → ((h : ℕ) → (f.0 ≡ h → ⊥) → modify h ≡ a.modify h)
      → AreLanded (failed || a.modify f.0) state_of modify frames' n pages' swaps'
  are_landed failed g state_of modify frames' n pages' swaps' done states others mark marks =
      let on = landing_on in
      let m = failed || a.modify f.0 in
      let holds : a.page f.0 ≡ Some g = sym row_page ∙ done.page in
      let page : on.page ≡ g = let other = on.holds in cc in
      let fits = subst (λ (h : Page). FitsWrite x h (page_view config a h) (process_view config a)) page on.fits in
      let marked_is : (failed || (row_of parts.frames f.0).modify) ≡ m = ap (λ (b : Bool). failed || b) row_modify in
      let pages = landed_pages config (past_view past) a f.0 kept g holds x fits (length config.procs) parts.pages parts.swaps fit.pages fit.swaps m pages'
      (subst (λ (b : Bool). IsTableSet parts.pages pages' g (landed_row b x.block (kept_at parts.pages g))) marked_is done.pages) in
      let swaps = landed_swaps config (past_view past) a f.0 kept g holds x fits (length config.procs) parts.pages parts.swaps fit.pages fit.swaps m swaps' done.swap_procs
      (λ q w. done.swaps q w ∙ (λ i. swaps_landed (marked_is i) g x.block (kept_at parts.pages g) (swapped_at parts.swaps) q w)) in
      let tables = landed_tables config (past_view past) a f.0 kept g holds x fits (length config.procs) parts.pages parts.swaps fit.pages fit.swaps m parts.tables fit.tables in
      let back : Some g ≡ a.page f.0 = sym holds in
      record {
        frames = write_landed config a flights rest x f.0 on failed state_of modify states others mark marks config.frames parts.frames frames' fit.frames on.within done.rows done.free done.modified;
        flights = flights_landed_at flights config.frames k x lands.open_k (starts_once past k) f.0 lands.frame parts.starts parts.roles fit.flights on.within (one_on_frame config (past_view past) a f.0 kept);
        tables = subst (λ (o : Option Page). TablesFit (pte_of config a.map a.valid a.page (lies_at a.lies m o x.block)) (length config.procs) parts.tables) back tables;
        pages = subst (λ (o : Option Page). PagesFit config (charged_row a.charged a.touched (lies_at a.lies m o x.block) a.assigned) pages') back pages;
        swaps = subst (λ (o : Option Page). SwapsFit (lies_at a.lies m o x.block) (length config.procs) swaps') back swaps;
        seats = seats_landed_at flights (length config.procs + 2) k x lands.open_k (starts_once past k) seat.0 lands.seat parts.busy parts.in_flight n fit.seats there done.busy;
      }

  calm_fit : awaits_reuse past ≡ false → parts.failed ≡ None
  calm_fit calm = none_failed past parts calm fit.failed

  -- of a write that hasn't failed
  ok_parts : (g : Page) (frames' : Frames) (n : ℕ) (pages' : ChargedTable) (swaps' : SwapTable) → IsLandingDone parts seat.0 f.0 x.block g false frames' n pages' swaps' → awaits_reuse past ≡ false
      → PartsFit config (record { seat = seat; what = what.OutOk f k } ∷ past) (after_out_ok a f.0 (Some x)) (parts_landed parts seat.0 f.0 x.block g frames' n pages' swaps')
  ok_parts g frames' n pages' swaps' done calm =
      let u = nat_eq (shares a.valid f.0) 0 in
      let to = if u then settled_to (a.modify f.0) else a.state f.0 in
      let now = are_landed false g (at_number a.state f.0 to) a.modify frames' n pages' swaps' done (at_number_same a.state f.0 to) (λ h apart. at_number_other a.state f.0 to h apart) refl (λ h apart. refl) in
      record {
        frames = now.frames;
        flights = now.flights;
        processes = fit.processes;
        spoken = fit.spoken;
        tables = now.tables;
        sections = fit.sections;
        pages = now.pages;
        globals = fit.globals;
        file = fit.file;
        swaps = now.swaps;
        seats = now.seats;
        failed = calm_fit calm;
      }

  -- of a failed one: the mark is set
  fail_parts : (c d : ℕ) (g : Page) (frames' : Frames) (n : ℕ) (pages' : ChargedTable) (swaps' : SwapTable) → IsLandingDone parts seat.0 f.0 x.block g true frames' n pages' swaps' → awaits_reuse past ≡ false
      → PartsFit config (record { seat = seat; what = what.OutFail f k c d } ∷ past) (after_out_fail a f.0 (Some x)) (parts_landed parts seat.0 f.0 x.block g frames' n pages' swaps')
  fail_parts c d g frames' n pages' swaps' done calm = subst (λ (m : Bool). PartsFit config (record { seat = seat; what = what.OutFail f k c d } ∷ past) (failed_with m) (parts_landed parts seat.0 f.0 x.block g frames' n pages' swaps')) (sym (at_number_same a.modify f.0 true)) fits
    where
      u : Bool
      u = nat_eq (shares a.valid f.0) 0

      to : Bool → FrameState
      to m = if u then settled_to m else a.state f.0

      failed_with : Bool → Pager
      failed_with m = record a {
        state = at_number a.state f.0 (to m);
        modify = at_number a.modify f.0 true;
        free = pushed_if (u && not m) a.free f.0;
        modified = pushed_if (u && m) a.modified f.0;
        lies = lies_at a.lies m (a.page f.0) x.block;
      }

      now : AreLanded true (at_number a.state f.0 (to true)) (at_number a.modify f.0 true) frames' n pages' swaps'
      now = are_landed true g (at_number a.state f.0 (to true)) (at_number a.modify f.0 true) frames' n pages' swaps' done
          (at_number_same a.state f.0 (to true)) (λ h apart. at_number_other a.state f.0 (to true) h apart) (at_number_same a.modify f.0 true) (λ h apart. at_number_other a.modify f.0 true h apart)

      fits : PartsFit config (record { seat = seat; what = what.OutFail f k c d } ∷ past) (failed_with true) (parts_landed parts seat.0 f.0 x.block g frames' n pages' swaps')
      fits = record {
        frames = now.frames;
        flights = now.flights;
        processes = fit.processes;
        spoken = fit.spoken;
        tables = now.tables;
        sections = fit.sections;
        pages = now.pages;
        globals = fit.globals;
        file = fit.file;
        swaps = now.swaps;
        seats = now.seats;
        failed = calm_fit calm;
      }

module _ (config : Config) (past : List Entry) (a : Pager) (seat : Seat) (f : Pfn) (k : ℕ) (kept : IsKept config (past_view past) a) (parts : Parts) (fit : PartsFit config past a parts) where
  seat_there : (w : What) → IsLegal config past a (record { seat = seat; what = w }) → seat.0 < length config.procs + 2
  seat_there w legal = let few = legal.line.seat in omega (arith, few)

  pub out_ok_parts : (legal : IsLegal config past a (record { seat = seat; what = what.OutOk f k })) (g : Page) (frames' : Frames) (n : ℕ) (pages' : ChargedTable) (swaps' : SwapTable)
      → IsLandingDone parts seat.0 f.0 (legal.row.flight).block g false frames' n pages' swaps'
      → PartsFit config (record { seat = seat; what = what.OutOk f k } ∷ past) (after config past a (record { seat = seat; what = what.OutOk f k }))
      (parts_landed parts seat.0 f.0 (legal.row.flight).block g frames' n pages' swaps')
  out_ok_parts legal g frames' n pages' swaps' done =
      subst
      (λ (o : Option Flight). PartsFit config (record { seat = seat; what = what.OutOk f k } ∷ past) (after_out_ok a f.0 o)
      (parts_landed parts seat.0 f.0 (legal.row.flight).block g frames' n pages' swaps'))
      (sym legal.row.lands.open_k)
      (ok_parts config past a seat f k legal.row.flight kept legal.row.lands legal.row.writes (seat_there (what.OutOk f k) legal) parts fit g frames' n pages' swaps' done
      (no_reuse config past (record { seat = seat; what = what.OutOk f k }) legal.in_turn refl))

  pub out_fail_parts : (c d : ℕ) (legal : IsLegal config past a (record { seat = seat; what = what.OutFail f k c d })) (g : Page) (frames' : Frames) (n : ℕ) (pages' : ChargedTable) (swaps' : SwapTable)
      → IsLandingDone parts seat.0 f.0 (legal.row.write.flight).block g true frames' n pages' swaps'
      → PartsFit config (record { seat = seat; what = what.OutFail f k c d } ∷ past) (after config past a (record { seat = seat; what = what.OutFail f k c d }))
      (parts_landed parts seat.0 f.0 (legal.row.write.flight).block g frames' n pages' swaps')
  out_fail_parts c d legal g frames' n pages' swaps' done =
      subst
      (λ (o : Option Flight). PartsFit config (record { seat = seat; what = what.OutFail f k c d } ∷ past) (after_out_fail a f.0 o)
      (parts_landed parts seat.0 f.0 (legal.row.write.flight).block g frames' n pages' swaps'))
      (sym legal.row.write.lands.open_k)
      (fail_parts config past a seat f k legal.row.write.flight kept legal.row.write.lands legal.row.write.writes (seat_there (what.OutFail f k c d) legal) parts fit c d g frames' n pages' swaps' done
      (no_reuse config past (record { seat = seat; what = what.OutFail f k c d }) legal.in_turn refl))
