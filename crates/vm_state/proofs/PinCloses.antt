-- A pin, or an unpin, of a range closes, and its calls may be made: a slot of the ring after the other.
use Rattle.std.proofs.Common.{◌≡◌, ℕ, ◌+◌, ◌-◌, ◌^◌, ◌≤◌, ◌<◌, Bool, true, false, List, [], ◌∷◌, ◌++◌, Option, Some, None, length, slice_index_or, slice_set, refl, sym, ap, ◌∙◌, subst, arith}
use Rattle.std.specs.Prelude.{IsSome, if◌then◌else◌}
use Rattle.std.specs.Option.{option_map}
use Rattle.std.proofs.lemmas.List.{set-get_or}
use Rattle.std.proofs.lemmas.Option.{same_Some}
use Rattle.vm_types.specs.BlockView.{BlockView, Tells}
use Rattle.vm_types.specs.Ring.{Ring}
use Rattle.vm_types.specs.declared.config.Config.{Config}
use Rattle.vm_types.specs.declared.names.Addr.{Addr}
use Rattle.vm_types.specs.declared.names.Pfn.{Pfn}
use Rattle.vm_types.specs.declared.names.Seat.{Seat}
use Rattle.vm_types.specs.declared.reply.Answer.{Answer}
use Rattle.vm_types.specs.declared.reply.Answer.TheVariants as answer
use Rattle.vm_types.specs.declared.service.Service.{Service}
use Rattle.run_record.specs.RunRecord.{Recorded}
use Rattle.vm_journal.specs.declared.entry.Entry.{Entry}
use Rattle.vm_journal.specs.declared.entry.What.TheVariants as what
use Rattle.page_tables.specs.PageTables.{PageTables, pte_in}
use Rattle.pfn_database.specs.Frames.{Frames, row_of}
use Rattle.pfn_database.specs.Rows.{uncounted}
use Rattle.pager_model.specs.Around.{past_view}
use Rattle.pager_model.specs.Lookups.{entry_of}
use Rattle.pager_model.specs.Pager.{Pager}
use Rattle.pager_model.specs.Run.{pager_after}
use Rattle.pager_model.specs.Step.{IsLegal}
use Rattle.pager_laws.proofs.ValidEntries.{valid_at_page}
use Rattle.frame_store.specs.StoreView.{StoreView}
use Rattle.state_pages.specs.Shown.{frame_entry, frame_number}
use Rattle.working_set.specs.Slots.{slot_at, with_pin}
use Rattle.state_parts.specs.Repinned.{page_to_pin}
use Rattle.state_parts.specs.declared.process_row.ProcessRow.{ProcessRow}
use Rattle.state_parts.specs.declared.spoken_row.SpokenRow.{SpokenRow}
use Rattle.state_fits.specs.Parts.{Parts}
use Rattle.state_fits.specs.PartsFit.{PartsFit}
use Rattle.state_fits.specs.Processes.{process_row}
use Rattle.state_fits.specs.Serving.{pin_service}
use Rattle.state_fits.proofs.PartsSet.{process_read, spoken_read}
use Rattle.state_fits.proofs.RepinnedParts as pins
use Rattle.state_fits.proofs.ServedParts.{pin_process}
use Rattle.vm_state.specs.History.{owed}
use Rattle.vm_state.specs.PageReadings.{frame_of}
use Rattle.vm_state.specs.StateKept.{IsState}
use Rattle.vm_state.proofs.Closing.{kept, right}
use Rattle.vm_state.proofs.DeleteCloses.{pushed_on}
use Rattle.vm_state.proofs.PageShows.{frame_is}
use Rattle.vm_state.proofs.ServedCloses.{pinned_closes}
use Rattle.vm_state.proofs.SimpleCloses.{spoken_by_few}

-- what is pushed to a journal that is as it was, with the service that it is
pub pushed_as : (before now new : Recorded) (seat : Seat) (s t : Service) (w : Answer) → s ≡ t → now ≡ before
    → new ≡ record now { entries = now.entries ++ record { seat = seat; what = what.Served s w } ∷ []; spare = now.spare - 1 }
    → new ≡ record before { entries = before.entries ++ record { seat = seat; what = what.Served t w } ∷ []; spare = before.spare - 1 }
pushed_as before now new seat s t w same is pushed =
    subst (λ (u : Service). new ≡ record before { entries = before.entries ++ record { seat = seat; what = what.Served u w } ∷ []; spare = before.spare - 1 }) same
    (pushed_on before now new (record { seat = seat; what = what.Served s w }) is pushed)

-- what shows a frame is there
shown_there : (result : Option Pfn) (f : ℕ) → option_map frame_number result ≡ Some f → IsSome result
shown_there None f is = absurd (cc)
shown_there (Some x) f is = refl

module _ {B : Type 0} {seen : B → BlockView} {tells : Tells} {config : Config} {past : List Entry} {spare : ℕ} {store : StoreView B} {fields : Parts} {numbers : List ℕ}
    (before : IsState seen tells config past spare store fields numbers) (seat : Seat) (pin : Bool) (at : Addr) (pages n : ℕ)
    (legal : IsLegal config past (pager_after config past) (record { seat = seat; what = what.Served (pin_service pin at pages) (answer.Count n) })) where
  abbrev a : Pager
  a = pager_after config past

  pub there : seat.0 < length config.procs
  there = pin_process config past a seat pin at pages n legal

  -- the parts once the slots before this one are changed
  abbrev pub FitPinned : ℕ → Parts → Type 0
  FitPinned i parts = PartsFit config past (pins.with_pins config past a seat.0 there pin at.0 pages i) parts

  pub none_pinned : FitPinned 0 fields
  none_pinned = pins.none_repinned config past a seat.0 there pin at.0 pages fields before.parts

  -- as many slots as the ring had at first
  pub slots_are : (x : ProcessRow) → x ≡ slice_index_or fields.processes seat.0 x → length (x.ring).slots ≡ length (a.ring seat.0).slots
  slots_are x read = ap (λ (y : ProcessRow). length (y.ring).slots) (process_read (process_row a.status a.ring a.limit a.references a.faults a.collided) (length config.procs) fields.processes seat.0 x before.parts.processes there read)

  -- a slot below that number
  pub within_first : (x : ProcessRow) → x ≡ slice_index_or fields.processes seat.0 x → (count i : ℕ) → count ≡ length (x.ring).slots → i < count → i < length (a.ring seat.0).slots
  within_first x read count i many less = let are = slots_are x read in omega (arith, many, less, are)

  module _ (i : ℕ) (within : i < length (a.ring seat.0).slots) (parts : Parts) (fit : FitPinned i parts) (x : ProcessRow) (read : x ≡ slice_index_or parts.processes seat.0 x) where
    -- the slot is one of the ring's
    pub slot_there : i < length (x.ring).slots
    slot_there = subst (λ (r : Ring). i < length r.slots) (sym (pins.ring_is config past a seat.0 there pin at.0 pages i within parts fit x read)) (pins.same_length config past a seat.0 there pin at.0 pages i within)

    left_pinned : page_to_pin pin at.0 pages (slot_at x.ring i) ≡ None → FitPinned (i + 1) parts
    left_pinned none = pins.left_repinned config past a seat.0 there pin at.0 pages i within parts fit x read none

    -- the row is written as it was
    pub left_written : page_to_pin pin at.0 pages (slot_at x.ring i) ≡ None → FitPinned (i + 1) (record parts { processes = slice_set parts.processes seat.0 x })
    left_written none =
        let written : slice_set parts.processes seat.0 x ≡ parts.processes = ap (slice_set parts.processes seat.0) read ∙ set-get_or parts.processes seat.0 x in
        subst (λ (rows : List ProcessRow). FitPinned (i + 1) (record parts { processes = rows })) (sym written) (left_pinned none)

    module _ (v : ℕ) (some : page_to_pin pin at.0 pages (slot_at x.ring i) ≡ Some v) (same : parts.tables ≡ fields.tables) where
      abbrev pub f : ℕ
      f = pins.f config past a seat.0 there pin at.0 pages i within parts fit (past_view past) (kept before) x read v some

      found : entry_of a.valid seat.0 v ≡ Some (pins.found config past a seat.0 there pin at.0 pages i within parts fit (past_view past) (kept before) x read v some).0
      found = (pins.found config past a seat.0 there pin at.0 pages i within parts fit (past_view past) (kept before) x read v some).1

      -- its entry shows the frame
      pub shows : frame_entry (pte_in parts.tables seat.0 v) ≡ Some f
      shows = ap (λ (t : PageTables). frame_entry (pte_in t seat.0 v)) same ∙ (frame_is before seat.0 v ∙ ap (option_map frame_of) found)

      pub shown_some : (result : Option Pfn) → option_map frame_number result ≡ frame_entry (pte_in parts.tables seat.0 v) → IsSome result
      shown_some result is = shown_there result f (is ∙ shows)

      less : f < config.frames
      less = (valid_at_page config past a seat.0 v _ (kept before) found).within

      -- what is asked of the frame that is shown
      module _ (g : Pfn) (is : option_map frame_number (Some g) ≡ frame_entry (pte_in parts.tables seat.0 v)) where
        is_f : f ≡ g.0
        is_f = sym (same_Some g.0 f (is ∙ shows))

        pub below : g.0 < length (parts.frames).rows
        below = subst (λ (h : ℕ). h < length (parts.frames).rows) is_f (pins.below config past a seat.0 there pin at.0 pages i within parts fit (past_view past) (kept before) x read v some less)

        pub room : pin ≡ true → (row_of parts.frames g.0).refs < 2 ^ 31
        room on = subst (λ (h : ℕ). (row_of parts.frames h).refs < 2 ^ 31) is_f (pins.room config past a seat.0 there pin at.0 pages i within parts fit (past_view past) (kept before) x read v some before.formed (right before) refl)

        pub some_pin : pin ≡ false → 0 < uncounted (row_of parts.frames g.0)
        some_pin off = subst (λ (h : ℕ). 0 < uncounted (row_of parts.frames h)) is_f (pins.some_pin config past a seat.0 there pin at.0 pages i within parts fit (past_view past) (kept before) x read v some off)

        pub one_pinned : (ring' : Ring) → ring' ≡ with_pin x.ring i pin → (frames' : Frames)
            → frames'.rows ≡ slice_set (parts.frames).rows g.0 (record (row_of parts.frames g.0) { refs = if pin then (row_of parts.frames g.0).refs + 1 else (row_of parts.frames g.0).refs - 1 })
            → frames'.free ≡ (parts.frames).free → frames'.modified ≡ (parts.frames).modified
            → FitPinned (i + 1) (record parts { frames = frames'; processes = slice_set parts.processes seat.0 (record x { ring = ring' }) })
        one_pinned ring' marked frames' rows free modified =
            pins.one_repinned config past a seat.0 there pin at.0 pages i within parts fit (past_view past) (kept before) x read v some less ring' marked frames'
            (subst (λ (h : ℕ). frames'.rows ≡ slice_set (parts.frames).rows h (record (row_of parts.frames h) { refs = if pin then (row_of parts.frames h).refs + 1 else (row_of parts.frames h).refs - 1 })) (sym is_f) rows) free modified

  pub spoken_few : (i : ℕ) (parts : Parts) → FitPinned i parts → (y : SpokenRow) → y ≡ slice_index_or parts.spoken seat.0 y → y.count ≤ length past
  spoken_few i parts fit y read =
      subst (λ (m : ℕ). m ≤ length past) (sym (ap (λ (z : SpokenRow). z.count) (spoken_read past (length config.procs) parts.spoken seat.0 y fit.spoken there read))) (spoken_by_few seat.0 past)

  -- once each slot is changed
  pub pin_closes : owed (record { seat = seat; what = what.Served (pin_service pin at pages) (answer.Count n) } ∷ past) + 1 ≤ spare
      → (i : ℕ) → i ≡ length (a.ring seat.0).slots → (fields' : Parts) → FitPinned i fields' → (config' : Config) → config' ≡ config → (numbers' : List ℕ) → numbers' ≡ numbers
      → (frames : Frames) (store' : StoreView B) → store' ≡ record store { frames = frames }
      → (y : SpokenRow) → y ≡ slice_index_or fields'.spoken seat.0 y → (number : ℕ) → number ≡ length past + 1
      → IsState seen tells config' (record { seat = seat; what = what.Served (pin_service pin at pages) (answer.Count n) } ∷ past) (spare - 1) store'
      (record fields' { spoken = slice_set fields'.spoken seat.0 (record { last = Some number; count = y.count + 1 }) }) numbers'
  pin_closes paid i all fields' fit config' config_is numbers' numbers_is frames store' store_is y read_y number is =
      rw (config_is, numbers_is, store_is)
      (pinned_closes before seat pin at pages n legal paid frames fields' (pins.all_repinned config past a seat.0 there pin at.0 pages i all fields' fit) y read_y number is)
