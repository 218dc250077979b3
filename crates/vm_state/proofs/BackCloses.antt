-- BACK closes, and its calls may be made.
use Rattle.std.proofs.Common.{◌≡◌, ℕ, ◌+◌, ◌-◌, ◌≤◌, Bool, true, false, List, ◌∷◌, Some, slice_index_or, slice_set, refl, sym, ap, ap₂, ◌∙◌, arith}
use Rattle.vm_types.specs.BlockView.{BlockView, Tells}
use Rattle.vm_types.specs.PagePlaces.{changed_at}
use Rattle.vm_types.specs.declared.config.Config.{Config}
use Rattle.vm_types.specs.declared.names.Addr.{Addr}
use Rattle.vm_types.specs.declared.names.FrameState.{FrameState}
use Rattle.vm_types.specs.declared.names.Page.{Page}
use Rattle.vm_types.specs.declared.names.Page.TheVariants.{Private}
use Rattle.vm_types.specs.declared.names.Pfn.{Pfn}
use Rattle.vm_types.specs.declared.names.Proc.{Proc}
use Rattle.vm_types.specs.declared.names.ProcStatus.{ProcStatus}
use Rattle.vm_types.specs.declared.names.ProcStatus.TheVariants as status
use Rattle.vm_types.specs.declared.names.Seat.{Seat}
use Rattle.vm_journal.specs.declared.entry.Entry.{Entry}
use Rattle.vm_journal.specs.declared.entry.What.TheVariants as what
use Rattle.page_lists.specs.Lists.{without}
use Rattle.global_pages.specs.GlobalPages.{GlobalPages}
use Rattle.page_tables.specs.PageTables.{PageTables, pte_in}
use Rattle.pte_forms.specs.declared.pte.Place.TheVariants as place
use Rattle.pte_forms.specs.declared.pte.Pte.{Pte}
use Rattle.pfn_database.specs.Frames.{Frames, row_of}
use Rattle.pfn_database.specs.declared.row.Row.{Row}
use Rattle.pager_laws.proofs.FewCounts.{counts_few}
use Rattle.pager_model.specs.Flights.{open_flights}
use Rattle.pager_model.specs.Maps.{page_number}
use Rattle.pager_model.specs.Pager.{Pager}
use Rattle.pager_model.specs.Run.{pager_after}
use Rattle.pager_model.specs.Step.{IsLegal}
use Rattle.frame_store.specs.StoreView.{StoreView}
use Rattle.state_parts.specs.ChargedTable.{ChargedTable}
use Rattle.state_parts.specs.SwapTable.{SwapTable}
use Rattle.state_parts.specs.declared.process_row.ProcessRow.{ProcessRow}
use Rattle.state_fits.specs.Changes.{page_slot, shared_in}
use Rattle.state_fits.specs.Parts.{Parts}
use Rattle.state_fits.specs.PartsFit.{PartsFit}
use Rattle.state_fits.proofs.BackCan.{CanBack, back_can, back_coming_can, back_resident_can}
use Rattle.state_fits.proofs.BackParts.{back_coming_parts, back_parts, is_coming, page_own}
use Rattle.state_fits.proofs.EnteredParts.{entered_row}
use Rattle.state_fits.proofs.FrameRows.{row_read}
use Rattle.vm_state.specs.History.{owed}
use Rattle.state_pages.specs.RingSlots.{CanFault, CanTakeSlot, HasFaulted, TakesSlot, mark_back}
use Rattle.state_pages.specs.SectionPages.{CanShare}
use Rattle.vm_state.specs.StateKept.{IsState}
use Rattle.vm_state.proofs.Closing.{closed, kept, right}
use Rattle.vm_state.proofs.Numbered.{can_share}

module _ {B : Type 0} {seen : B → BlockView} {tells : Tells} {config : Config} {past : List Entry} {spare : ℕ} {store : StoreView B} {fields : Parts} {numbers : List ℕ}
    (before : IsState seen tells config past spare store fields numbers) (seat : Seat) (q : Proc) (address : Addr) (f : Pfn) (from : FrameState)
    (legal : IsLegal config past (pager_after config past) (record { seat = seat; what = what.Back q address f from })) where
  abbrev a : Pager
  a = pager_after config past

  abbrev v : ℕ
  v = page_number address.0

  abbrev e : Entry
  e = record { seat = seat; what = what.Back q address f from }

  pub can : CanBack config q.0 v f.0 fields
  can = back_can config past a seat q address f from fields before.formed (kept before) (right before) legal before.parts

  pub may_share : (g : Page) → (row_of fields.frames f.0).page ≡ Some g → CanShare config fields.globals g
  may_share g page = can_share config fields.globals g (can.enter.global g page)

  module _ (x : ProcessRow) (read : x ≡ slice_index_or fields.processes q.0 x) where
    can_fault : (x.status ≡ status.Coming → ⊥) → CanFault x
    can_fault not_coming =
        let may = back_resident_can config past a seat q address f from fields before.formed (kept before) (right before) legal before.parts (counts_few config past) x read not_coming in
        record { below = may.below; limit = may.limit; few = (let few = may.faults in let short = before.short in omega (arith, few, short)) }

    pub can_take : CanTakeSlot x.status q.0 v x fields.pages fields.swaps
    can_take = by x.status refl
      where
        by : (s : ProcStatus) → x.status ≡ s → CanTakeSlot s q.0 v x fields.pages fields.swaps
        by status.Resident is = can_fault (λ comes. cc (is, comes))
        by status.Leaving is = can_fault (λ comes. cc (is, comes))
        by status.Gone is = can_fault (λ comes. cc (is, comes))
        by status.Coming is =
            let may = back_coming_can config past a seat q address f from fields before.formed (kept before) (right before) legal before.parts x read is in
            record { procs = may.procs; charged = may.charged; kept = may.kept; of = q; slot = may.slot; lies = may.lies; few = may.few; empty = may.empty }

    module _ (g : Page) (page : (row_of fields.frames f.0).page ≡ Some g) (row' : ProcessRow) (slot : ℕ) (frames' : Frames)
        (free : frames'.free ≡ without fields.frames.free f.0) (modified : frames'.modified ≡ without fields.frames.modified f.0)
        (tables' : PageTables) (old : Pte) (procs : tables'.procs ≡ (fields.tables).procs) (changed : (r w : ℕ) → pte_in tables' r w ≡ changed_at (pte_in fields.tables) q.0 v (Some (record { prot = old.prot; place = place.Valid false f })) r w)
        (there : pte_in fields.tables q.0 v ≡ Some old)
        (pages' : ChargedTable) (swaps' : SwapTable) (globals' : GlobalPages) (shared : globals' ≡ shared_in config g fields.globals) where
      abbrev left : Parts
      left = record fields { frames = frames'; processes = slice_set fields.processes q.0 row'; tables = tables'; pages = pages'; swaps = swaps'; globals = globals' }

      resident : (x.status ≡ status.Coming → ⊥) → HasFaulted v x row' slot → pages' ≡ fields.pages → swaps' ≡ fields.swaps
          → frames'.rows ≡ slice_set fields.frames.rows f.0 (entered_row g (row_of fields.frames f.0).modify (page_slot g slot) (row_of fields.frames f.0))
          → PartsFit config (e ∷ past) (pager_after config (e ∷ past)) left
      resident not_coming faulted pages swaps rows =
          rw (faulted.row, pages, swaps, shared) (back_parts config past a seat q address f from fields (kept before) (right before) legal before.parts x g slot old frames' tables' read not_coming page faulted.offered there rows free modified procs changed)

      private_page : x.status ≡ status.Coming → g ≡ Private q v
      private_page comes =
          let back = is_coming config past a seat q address f from fields (kept before) (right before) legal before.parts x read comes in
          let own = page_own config past a seat q address f from fields (kept before) (right before) legal before.parts back in
          let held = sym (ap (λ (row : Row). row.page) (row_read a.state a.page a.modify a.valid a.ring (open_flights past) config.frames a.free a.modified fields.frames f.0 before.parts.frames)) ∙ page in
          let holds = back.holds in
          cc (held, own, holds)

      by_status : (s : ProcStatus) → x.status ≡ s → TakesSlot s q.0 v x row' fields.pages pages' fields.swaps swaps' slot
          → frames'.rows ≡ slice_set fields.frames.rows f.0 (entered_row g (mark_back s (row_of fields.frames f.0).modify) (page_slot g slot) (row_of fields.frames f.0))
          → PartsFit config (e ∷ past) (pager_after config (e ∷ past)) left
      by_status status.Resident is taken rows = resident (λ comes. cc (is, comes)) taken.0 taken.1 taken.2 rows
      by_status status.Leaving is taken rows = resident (λ comes. cc (is, comes)) taken.0 taken.1 taken.2 rows
      by_status status.Gone is taken rows = resident (λ comes. cc (is, comes)) taken.0 taken.1 taken.2 rows
      by_status status.Coming is taken rows =
          let own = private_page is in
          let same = shared ∙ ap (λ (h : Page). shared_in config h fields.globals) own in
          rw (taken.row, same) (back_coming_parts config past a seat q address f from fields (kept before) (right before) legal before.parts x g taken.charged taken.of slot old frames' tables' pages' swaps' read is page taken.kept taken.lies there
          (rows ∙ ap (λ (h : Page). slice_set fields.frames.rows f.0 (entered_row g true (page_slot h slot) (row_of fields.frames f.0))) own) free modified procs changed taken.pages_changed taken.swaps_procs taken.swaps_changed)

      pub back_closes : owed (e ∷ past) + 1 ≤ spare → TakesSlot x.status q.0 v x row' fields.pages pages' fields.swaps swaps' slot
          → (modify : Bool) → modify ≡ mark_back x.status (row_of fields.frames f.0).modify → (held : ℕ) → held ≡ page_slot g slot
          → frames'.rows ≡ slice_set fields.frames.rows f.0 (entered_row g modify held (row_of fields.frames f.0))
          → IsState seen tells config (e ∷ past) (spare - 1) (record store { frames = frames' }) left numbers
      back_closes paid taken modify marked held held_is rows =
          closed before e (λ told. tt) legal paid (record store { frames = frames' }) left
          (by_status x.status refl taken (rows ∙ ap₂ (λ (m : Bool) (n : ℕ). slice_set fields.frames.rows f.0 (entered_row g m n (row_of fields.frames f.0))) marked held_is)) (refl, refl)
          (record { ids = before.places.ids; buffers = before.places.buffers; blocks = before.places.blocks; left = before.places.left; firsts = before.places.firsts; size = before.places.size })
