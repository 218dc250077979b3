-- INFAIL: a read fails, and its frame is in read error.
use Rattle.std.proofs.Common.{◌≡◌, ℕ, ◌<◌, ◌+◌, ◌-◌, List, ◌∷◌, Some, None, length, slice_set, slice_index_or, refl, sym, ap, ◌∙◌, arith}
use Rattle.std.specs.Option.{option_map}
use Rattle.vm_types.specs.declared.config.Config.{Config}
use Rattle.vm_types.specs.declared.names.FrameState.TheVariants as state
use Rattle.vm_types.specs.declared.names.Pfn.{Pfn}
use Rattle.vm_types.specs.declared.names.Seat.{Seat}
use Rattle.vm_journal.specs.declared.entry.Entry.{Entry}
use Rattle.vm_journal.specs.declared.entry.What.TheVariants as what
use Rattle.pfn_database.specs.Frames.{Frames, row_of}
use Rattle.pfn_database.specs.Rows.{counted_references, uncounted}
use Rattle.pfn_database.specs.declared.row.Row.{Row}
use Rattle.pager_laws.proofs.InFailKept.{begun_open}
use Rattle.pager_model.specs.Around.{past_view, quiet}
use Rattle.pager_model.specs.Flights.{Flight, open_flights, without_flight}
use Rattle.pager_model.specs.Lookups.{shares}
use Rattle.pager_model.specs.Pager.{Pager}
use Rattle.pager_model.specs.Sets.{at_number}
use Rattle.pager_model.specs.Step.{after, IsLegal}
use Rattle.pager_model.specs.Transfers.{reads_on, writes_on}
use Rattle.pager_rules.proofs.Basics.{at_number_other, at_number_same}
use Rattle.pager_rules.proofs.Quiet.{starts_once}
use Rattle.pager_rules.proofs.Turns.{calm}
use Rattle.pager_rules.specs.Kept.{IsKept}
use Rattle.state_fits.specs.Frames.{FramesFit, frame_pins, frame_row, row_by, slot_for}
use Rattle.state_fits.specs.Parts.{Parts}
use Rattle.state_fits.specs.PartsFit.{PartsFit}
use Rattle.state_fits.proofs.FrameRows.{over_pins}
use Rattle.state_fits.proofs.FlightsMoved.{flights_landed_at, one_on_frame, seats_landed_at}
use Rattle.state_fits.proofs.PartsSet.{frames_set}
use Rattle.state_fits.proofs.ReadLanded.{IsLandedOn, landed_on}

module _ (config : Config) (past : List Entry) (a : Pager) (seat : Seat) (f : Pfn) (k c d : ℕ) (kept : IsKept config (past_view past) a)
    (legal : IsLegal config past a (record { seat = seat; what = what.InFail f k c d })) (parts : Parts) (fit : PartsFit config past a parts) where
  abbrev e : Entry
  e = record { seat = seat; what = what.InFail f k c d }

  abbrev x : Flight
  x = legal.row.flight

  abbrev flights : List Flight
  flights = open_flights past

  abbrev rest : List Flight
  rest = without_flight k flights

  still : IsKept config (quiet flights) a
  still = calm config past a e legal.in_turn refl kept

  pub in_fail_on : IsLandedOn config a flights rest f.0
  in_fail_on = landed_on config past a seat.0 f.0 k x legal.row.role still legal.row.lands legal.row.reads

  abbrev old_row : ℕ → Row
  old_row = frame_row a.state a.page a.modify a.valid a.ring flights

  abbrev new_row : ℕ → Row
  new_row = frame_row (at_number a.state f.0 state.ReadError) a.page a.modify a.valid a.ring rest

  row_here : (row : Row) → row ≡ old_row f.0 → record row { state = state.ReadError; refs = counted_references row.shares 0 + uncounted row; flights = 0 } ≡ new_row f.0
  unfolding frame_row
  row_here row is = λ i. record {
    state = sym (at_number_same a.state f.0 state.ReadError) i;
    page = (is i).page;
    modify = (is i).modify;
    refs = (ap (λ (r : Row). counted_references r.shares 0 + uncounted r) is ∙ (λ j. counted_references (shares a.valid f.0) (sym in_fail_on.none j) + over_pins (counted_references (shares a.valid f.0) (reads_on f.0 flights + writes_on f.0 flights)) (frame_pins a.valid a.ring f.0) j)) i;
    shares = (is i).shares;
    slot = (is i).slot;
    flights = sym in_fail_on.none i;
  }

  row_there : (h : ℕ) → (f.0 ≡ h → ⊥) → new_row h ≡ old_row h
  unfolding frame_row
  row_there h apart = λ i. row_by (at_number_other a.state f.0 state.ReadError h apart i) (a.page h) (a.modify h) (shares a.valid h) (in_fail_on.there h apart i) (slot_for a.ring (a.page h)) (frame_pins a.valid a.ring h)

  frames : (frames' : Frames) → frames'.rows ≡ slice_set (parts.frames).rows f.0 (record (row_of parts.frames f.0) { state = state.ReadError; refs = counted_references (row_of parts.frames f.0).shares 0 + uncounted (row_of parts.frames f.0); flights = 0 })
      → frames'.free ≡ (parts.frames).free → frames'.modified ≡ (parts.frames).modified → FramesFit new_row config.frames a.free a.modified frames'
  frames frames' rows free modified =
      frames_set old_row new_row config.frames a.free a.free a.modified a.modified parts.frames frames' f.0 _ fit.frames in_fail_on.within rows (free ∙ fit.frames.free_list) (modified ∙ fit.frames.modified_list)
      (row_here (row_of parts.frames f.0) (fit.frames.rows f.0)) row_there

  seat_there : seat.0 < length config.procs + 2
  seat_there = let few = legal.line.seat in omega (arith, few)

  pub in_fail_parts : (frames' : Frames)
      → frames'.rows ≡ slice_set (parts.frames).rows f.0 (record (row_of parts.frames f.0) { state = state.ReadError; refs = counted_references (row_of parts.frames f.0).shares 0 + uncounted (row_of parts.frames f.0); flights = 0 })
      → frames'.free ≡ (parts.frames).free → frames'.modified ≡ (parts.frames).modified
      → (n : ℕ) → n ≡ slice_index_or parts.busy seat.0 n
      → PartsFit config (e ∷ past) (after config past a e) (record parts {
        frames = frames';
        starts = slice_set parts.starts f.0 None;
        roles = slice_set parts.roles f.0 None;
        busy = slice_set parts.busy seat.0 (n - 1);
        in_flight = parts.in_flight - 1;
        failed = Some (legal.row.flight).block;
      })
  in_fail_parts frames' rows free modified n read =
      record {
        frames = frames frames' rows free modified;
        flights = flights_landed_at flights config.frames k x legal.row.lands.open_k (starts_once past k) f.0 legal.row.lands.frame parts.starts parts.roles fit.flights in_fail_on.within (one_on_frame config (past_view past) a f.0 kept);
        processes = fit.processes;
        spoken = fit.spoken;
        tables = fit.tables;
        sections = fit.sections;
        pages = fit.pages;
        globals = fit.globals;
        file = fit.file;
        swaps = fit.swaps;
        seats = seats_landed_at flights (length config.procs + 2) k x legal.row.lands.open_k (starts_once past k) seat.0 legal.row.lands.seat parts.busy parts.in_flight n fit.seats seat_there read;
        failed = ap (option_map (λ (y : Flight). y.block)) (sym (begun_open past k x legal.row.lands.open_k));
      }
