-- DONE: a reference is answered.
use Rattle.std.proofs.Common.{◌≡◌, ℕ, ◌+◌, Bool, true, false, List, ◌∷◌, Option, Some, None, length, slice_set, slice_index_or, refl, sym, ap, ◌∙◌, subst}
use Rattle.std.specs.Prelude.{◌||◌, if◌then◌else◌}
use Rattle.vm_types.specs.Same.{same_page}
use Rattle.vm_types.specs.declared.config.Config.{Config}
use Rattle.vm_types.specs.declared.names.BlockId.{BlockId}
use Rattle.vm_types.specs.declared.names.Page.{Page}
use Rattle.vm_types.specs.declared.names.Seat.{Seat}
use Rattle.vm_types.specs.declared.reference.Ref.{Ref}
use Rattle.vm_types.specs.declared.reply.Reply.{Reply}
use Rattle.vm_journal.specs.declared.entry.Entry.{Entry}
use Rattle.vm_journal.specs.declared.entry.What.TheVariants as what
use Rattle.pfn_database.specs.Frames.{Frames, row_of}
use Rattle.pfn_database.specs.declared.row.Row.{Row}
use Rattle.pager_model.specs.Around.{past_view}
use Rattle.pager_model.specs.Done.{modify_done, touched_at}
use Rattle.pager_model.specs.Flat.{is_change, touched_with}
use Rattle.pager_model.specs.Flights.{Flight, open_flights}
use Rattle.pager_model.specs.Lookups.{block_of, entry_of, shares}
use Rattle.pager_model.specs.Maps.{is_paged, page_number}
use Rattle.pager_model.specs.Pager.{Assigned, Pager, Valid}
use Rattle.pager_model.specs.Sets.{at_number, has_page, with_page}
use Rattle.pager_model.specs.Step.{after, IsLegal}
use Rattle.pager_model.specs.Transfers.{reads_on, writes_on}
use Rattle.pager_laws.proofs.KeptIsSound.{count_from_has}
use Rattle.pager_rules.proofs.Basics.{at_number_other, at_number_same, has_page_first}
use Rattle.pager_rules.proofs.Turns.{no_reuse}
use Rattle.pager_rules.specs.Kept.{IsKept}
use Rattle.state_parts.specs.ChargedTable.{ChargedTable, IsTableSet, kept_at}
use Rattle.state_parts.specs.declared.charged_page.ChargedPage.{ChargedPage}
use Rattle.state_parts.specs.declared.process_row.ProcessRow.{ProcessRow}
use Rattle.state_parts.specs.declared.spoken_row.SpokenRow.{SpokenRow}
use Rattle.pager_laws.proofs.ValidEntries.{IsValidAt, valid_at_page}
use Rattle.state_fits.specs.Frames.{FramesFit, frame_pins, frame_row, row_by, slot_for}
use Rattle.state_fits.specs.Pages.{PagesFit, charged_row, touched_row}
use Rattle.state_fits.specs.Parts.{Parts}
use Rattle.state_fits.specs.PartsFit.{PartsFit}
use Rattle.state_fits.specs.Processes.{process_row}
use Rattle.state_fits.specs.Spoken.{one_more}
use Rattle.state_fits.proofs.OnePlace.{apart_back}
use Rattle.state_fits.proofs.PartsSet.{frames_set, pages_set, processes_set, spoken_read, spoken_set}
use Rattle.state_fits.proofs.SimpleParts.{none_failed, read_process}

-- a page is touched: its own row says so, if it has one
module _ (charged touched : List Page) (lies : Page → Option BlockId) (assigned : List Assigned) (config : Config) (g : Page) (paged : has_page charged g ≡ true → is_paged config g ≡ true) where
  abbrev row_with : Bool → Bool → Page → Option ChargedPage
  row_with is_charged is_touched h = if is_charged then Some (record { touched = is_touched; lies = lies h; assigned = block_of assigned h }) else None

  with_same : (h : Page) → same_page g h ≡ false → has_page (with_page touched g) h ≡ has_page touched h
  with_same h apart = go (has_page touched g)
    where
      go : (b : Bool) → has_page (if b then touched else (g ∷ touched)) h ≡ has_page touched h
      go true = refl
      go false = ap (λ (b : Bool). b || has_page touched h) (apart_back g h apart)

  with_it : has_page (with_page touched g) g ≡ true
  with_it = go (has_page touched g) refl
    where
      go : (b : Bool) → has_page touched g ≡ b → has_page (if b then touched else (g ∷ touched)) g ≡ true
      go true e = e
      go false e = has_page_first touched g

  pub touched_here : charged_row charged (touched_with config touched g) lies assigned g ≡ touched_row (charged_row charged touched lies assigned g)
  unfolding charged_row
  touched_here = go (has_page charged g) refl
    where
      go : (b : Bool) → has_page charged g ≡ b → row_with b (has_page (touched_with config touched g) g) g ≡ touched_row (row_with b (has_page touched g) g)
      go false is = refl
      go true is =
          ap (λ (b : Bool). row_with true (has_page (if b then with_page touched g else touched) g) g) (paged is)
          ∙ ap (λ (b : Bool). row_with true b g) with_it

  pub touched_there : (h : Page) → same_page g h ≡ false → charged_row charged (touched_with config touched g) lies assigned h ≡ charged_row charged touched lies assigned h
  unfolding charged_row
  touched_there h apart = go (is_paged config g)
    where
      go : (b : Bool) → row_with (has_page charged h) (has_page (if b then with_page touched g else touched) h) h ≡ row_with (has_page charged h) (has_page touched h) h
      go false = refl
      go true = ap (λ (b : Bool). row_with (has_page charged h) b h) (with_same h apart)

module _ (config : Config) (past : List Entry) (a : Pager) (seat : Seat) (r : Ref) (reply : Reply) (kept : IsKept config (past_view past) a)
    (legal : IsLegal config past a (record { seat = seat; what = what.Done r reply })) (parts : Parts) (fit : PartsFit config past a parts) where
  abbrev p : ℕ
  p = seat.0

  abbrev v : ℕ
  v = page_number (r.addr).0

  abbrev flights : List Flight
  flights = open_flights past

  -- the valid entry, and what is around it
  abbrev pub e : Valid
  e = legal.row.valid.0

  pub at : IsValidAt config a p v e
  at = valid_at_page config past a p v e kept legal.row.valid.1

  -- the row of its frame
  pub done_row : row_of parts.frames e.frame ≡ frame_row a.state a.page a.modify a.valid a.ring flights e.frame
  done_row = fit.frames.rows e.frame

  abbrev modify' : ℕ → Bool
  modify' = if is_change r.op then at_number a.modify e.frame true else a.modify

  modify_here : (c : Bool) → (if c then at_number a.modify e.frame true else a.modify) e.frame ≡ (if c then true else a.modify e.frame)
  modify_here true = at_number_same a.modify e.frame true
  modify_here false = refl

  modify_there : (c : Bool) (h : ℕ) → (e.frame ≡ h → ⊥) → (if c then at_number a.modify e.frame true else a.modify) h ≡ a.modify h
  modify_there true h apart = at_number_other a.modify e.frame true h apart
  modify_there false h apart = refl

  row_here : record (row_of parts.frames e.frame) { modify = (if is_change r.op then true else (row_of parts.frames e.frame).modify) } ≡ frame_row a.state a.page modify' a.valid a.ring flights e.frame
  unfolding frame_row
  row_here =
      ap (λ (x : Row). record x { modify = (if is_change r.op then true else x.modify) }) done_row
      ∙ ap (λ (m : Bool). row_by (a.state e.frame) (a.page e.frame) m (shares a.valid e.frame) (reads_on e.frame flights + writes_on e.frame flights) (slot_for a.ring (a.page e.frame)) (frame_pins a.valid a.ring e.frame)) (sym (modify_here (is_change r.op)))

  row_there : (h : ℕ) → (e.frame ≡ h → ⊥) → frame_row a.state a.page modify' a.valid a.ring flights h ≡ frame_row a.state a.page a.modify a.valid a.ring flights h
  unfolding frame_row
  row_there h apart = ap (λ (m : Bool). row_by (a.state h) (a.page h) m (shares a.valid h) (reads_on h flights + writes_on h flights) (slot_for a.ring (a.page h)) (frame_pins a.valid a.ring h)) (modify_there (is_change r.op) h apart)

  frames : (frames' : Frames) → frames'.rows ≡ slice_set parts.frames.rows e.frame (record (row_of parts.frames e.frame) { modify = (if is_change r.op then true else (row_of parts.frames e.frame).modify) })
      → frames'.free ≡ parts.frames.free → frames'.modified ≡ parts.frames.modified
      → FramesFit (frame_row a.state a.page (modify_done r.op (entry_of a.valid p v) a.modify) a.valid a.ring flights) config.frames a.free a.modified frames'
  frames frames' rows free modified =
      subst (λ (o : Option Valid). FramesFit (frame_row a.state a.page (modify_done r.op o a.modify) a.valid a.ring flights) config.frames a.free a.modified frames') (sym legal.row.valid.1)
      (frames_set (frame_row a.state a.page a.modify a.valid a.ring flights) (frame_row a.state a.page modify' a.valid a.ring flights) config.frames a.free a.free a.modified a.modified parts.frames frames' e.frame _
      fit.frames at.within rows (free ∙ fit.frames.free_list) (modified ∙ fit.frames.modified_list) row_here row_there)

  paged : has_page a.charged at.page ≡ true → is_paged config at.page ≡ true
  paged is = (kept.pages at.page).paged (count_from_has a.charged at.page is)

  abbrev row : ℕ → ProcessRow
  row = process_row a.status a.ring a.limit a.references a.faults a.collided

  pub done_parts : (frames' : Frames) → frames'.rows ≡ slice_set parts.frames.rows e.frame (record (row_of parts.frames e.frame) { modify = (if is_change r.op then true else (row_of parts.frames e.frame).modify) })
      → frames'.free ≡ parts.frames.free → frames'.modified ≡ parts.frames.modified
      → (x : ProcessRow) → x ≡ slice_index_or parts.processes p x → (y : SpokenRow) → y ≡ slice_index_or parts.spoken p y
      → (pages' : ChargedTable) → IsTableSet parts.pages pages' at.page (touched_row (kept_at parts.pages at.page))
      → PartsFit config (record { seat = seat; what = what.Done r reply } ∷ past) (after config past a (record { seat = seat; what = what.Done r reply }))
      (record parts { frames = frames'; processes = slice_set parts.processes p (record x { references = x.references + 1 }); spoken = slice_set parts.spoken p (record { last = Some (length past + 1); count = y.count + 1 }); pages = pages' })
  done_parts frames' rows free modified x read y read_y pages' touched =
      let there = legal.row.own.process in
      let is = read_process config past a seat parts fit p x there read in
      let entry : Entry = record { seat = seat; what = what.Done r reply } in
      record {
        frames = frames frames' rows free modified;
        flights = fit.flights;
        processes = processes_set row (process_row a.status a.ring a.limit (at_number a.references p (a.references p + 1)) a.faults a.collided) (length config.procs) parts.processes p _ fit.processes there
            (λ i. record {
              status = (is i).status;
              ring = (is i).ring;
              limit = (is i).limit;
              references = (ap (λ (z : ProcessRow). z.references + 1) is ∙ sym (at_number_same a.references p (a.references p + 1))) i;
              faults = (is i).faults;
              collided = (is i).collided;
            })
            (λ q apart i. record {
              status = a.status q;
              ring = a.ring q;
              limit = a.limit q;
              references = at_number_other a.references p (a.references p + 1) q apart i;
              faults = a.faults q;
              collided = a.collided q;
            });
        spoken = spoken_set past entry (length config.procs) parts.spoken _ fit.spoken there
            (ap (λ (z : SpokenRow). one_more true (length past + 1) z) (spoken_read past (length config.procs) parts.spoken p y fit.spoken there read_y))
            (λ q. refl);
        tables = fit.tables;
        sections = fit.sections;
        pages = subst (λ (o : Option Page). PagesFit config (charged_row a.charged (touched_at config a.touched o) a.lies a.assigned) pages') (sym at.mapped)
            (pages_set config (charged_row a.charged a.touched a.lies a.assigned) (charged_row a.charged (touched_with config a.touched at.page) a.lies a.assigned) parts.pages pages' at.page _ fit.pages touched
            (ap touched_row (fit.pages.each at.page) ∙ sym (touched_here a.charged a.touched a.lies a.assigned config at.page paged)) (touched_there a.charged a.touched a.lies a.assigned config at.page paged));
        globals = fit.globals;
        file = fit.file;
        swaps = fit.swaps;
        seats = fit.seats;
        failed = none_failed past parts (no_reuse config past entry legal.in_turn refl) fit.failed;
      }
