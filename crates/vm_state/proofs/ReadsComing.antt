-- INOK closes for a process that comes back, and its calls may be made.
use Rattle.std.proofs.Common.{◌≡◌, ℕ, ◌+◌, ◌-◌, ◌≤◌, true, false, List, ◌∷◌, Option, Some, None, length, slice_index_or, slice_set, refl, sym, ap, ◌∙◌, subst, subst₂, arith}
use Rattle.std.proofs.lemmas.Option.{same_Some}
use Rattle.vm_types.specs.declared.limits.TheConstants.{PAGE_BYTES}
use Rattle.vm_types.specs.BlockView.{BlockView, Tells}
use Rattle.vm_types.specs.PagePlaces.{changed_at}
use Rattle.vm_types.specs.declared.config.Config.{Config}
use Rattle.vm_types.specs.declared.names.Addr.{Addr}
use Rattle.vm_types.specs.declared.names.BlockId.TheVariants as block
use Rattle.vm_types.specs.declared.names.FrameState.TheVariants as state
use Rattle.vm_types.specs.declared.names.Page.TheVariants.{Private}
use Rattle.vm_types.specs.declared.names.Pfn.{Pfn}
use Rattle.vm_types.specs.declared.names.Proc.{Proc}
use Rattle.vm_types.specs.declared.names.Seat.{Seat}
use Rattle.vm_journal.specs.declared.entry.Entry.{Entry}
use Rattle.vm_journal.specs.declared.entry.Role.TheVariants as role
use Rattle.vm_journal.specs.declared.entry.What.TheVariants as what
use Rattle.page_tables.specs.PageTables.{PageTables, pte_in}
use Rattle.pte_forms.specs.declared.pte.Place.TheVariants as place
use Rattle.pte_forms.specs.declared.pte.Pte.{Pte}
use Rattle.pfn_database.specs.Frames.{Frames, row_of}
use Rattle.pfn_database.specs.Rows.{counted_references, uncounted}
use Rattle.pager_laws.proofs.KeptIsSound.{has_from_count}
use Rattle.pager_model.specs.Changes.{swap_slot}
use Rattle.pager_model.specs.Fits.{good}
use Rattle.pager_model.specs.Maps.{pfn, page_number}
use Rattle.pager_model.specs.Lookups.{block_of}
use Rattle.pager_model.specs.Pager.{Pager}
use Rattle.pager_model.specs.Ring.{slotted}
use Rattle.pager_model.specs.Run.{pager_after}
use Rattle.pager_model.specs.Sets.{has_page}
use Rattle.pager_model.specs.Step.{IsLegal}
use Rattle.frame_store.specs.LiftView.{LiftView}
use Rattle.frame_store.specs.StoreView.{StoreView, landed}
use Rattle.frame_store.specs.declared.lift.Carried.TheVariants.{Good}
use Rattle.state_parts.specs.ChargedTable.{ChargedTable, kept_at}
use Rattle.state_parts.specs.SwapTable.{SwapTable, swapped_at}
use Rattle.state_parts.specs.declared.charged_page.ChargedPage.{ChargedPage}
use Rattle.state_parts.specs.declared.process_row.ProcessRow.{ProcessRow}
use Rattle.state_fits.specs.Parts.{Parts}
use Rattle.state_fits.proofs.InOkParts.{come_lies, in_ok_come_parts}
use Rattle.state_fits.proofs.LandingCan.{CanComeIn, can_clear, can_come_in, can_put_in_slot, its_page}
use Rattle.state_fits.proofs.ChargedRows.{charged_is as row_charged}
use Rattle.vm_state.specs.History.{owed}
use Rattle.lift_carriers.specs.LiftsFit.{LiftFits, result_of}
use Rattle.vm_state.specs.ReadRoles.{IsReadAs}
use Rattle.state_pages.specs.RingSlots.{CanComeHome, HasComeHome}
use Rattle.vm_state.specs.StateKept.{IsState}
use Rattle.vm_state.proofs.Closing.{closed, kept, right}
use Rattle.vm_state.proofs.InOkCloses as ended
use Rattle.vm_state.proofs.ReadLands as land
use Rattle.vm_state.proofs.ReadsValid as valid

module _ {B : Type 0} {seen : B → BlockView} {tells : Tells} {config : Config} {past : List Entry} {spare : ℕ} {store : StoreView B} {fields : Parts} {numbers : List ℕ}
    (before : IsState seen tells config past spare store fields numbers) (seat : Seat) (lift : LiftView B)
    (legal : IsLegal config past (pager_after config past) (record { seat = seat; what = what.InOk (record { 0 = lift.frame }) lift.start }))
    (fits : LiftFits seen tells config past lift) (q : Proc) (address : Addr) (as_come : IsReadAs past lift.start (role.Come q address)) where
  abbrev a : Pager
  a = pager_after config past

  abbrev v : ℕ
  v = page_number address.0

  -- the slot whose swap block is read
  abbrev m : ℕ
  m = swap_slot legal.row.flight.block

  is_come : legal.row.role ≡ role.Come q address
  is_come = ended.role_is before seat lift legal fits (role.Come q address) as_come

  own_page : (ended.on before seat lift legal fits).page ≡ Private q v
  own_page = its_page config past a seat (record { 0 = lift.frame }) lift.start before.formed (kept before) (right before) legal fields before.parts q address is_come

  pub come_page : (row_of fields.frames lift.frame).page ≡ Some (Private q v)
  come_page = valid.row_page before seat lift legal fits q address ∙ ap Some own_page

  pub come_can : CanComeIn config fields q.0 v lift.frame (ended.on before seat lift legal fits).page
  come_can = can_come_in config past a seat (record { 0 = lift.frame }) lift.start before.formed (kept before) (right before) legal fields before.parts q address is_come

  lies : a.lies (Private q v) ≡ Some (block.Swap q m)
  lies = ap a.lies (sym own_page) ∙ come_lies config past a seat (record { 0 = lift.frame }) lift.start (kept before) (right before) legal fields before.parts q address is_come

  charged : ChargedPage
  charged = record { touched = has_page a.touched (Private q v); lies = a.lies (Private q v); assigned = block_of a.assigned (Private q v) }

  charged_is : kept_at fields.pages (Private q v) ≡ Some charged
  unfolding charged
  charged_is =
      let one = ((kept before).pages (Private q v)).lying _ refl lies in
      before.parts.pages.each (Private q v) ∙ row_charged a.charged a.touched a.lies a.assigned (Private q v) (has_from_count a.charged (Private q v) (omega (arith, one)))

  charged_lies : charged.lies ≡ Some (block.Swap q m)
  unfolding charged
  charged_lies = lies

  pub can_home : (y : ProcessRow) → y ≡ slice_index_or fields.processes q.0 y → CanComeHome q.0 v y fields.pages fields.swaps
  can_home y read =
      let slot = can_clear config past a seat (record { 0 = lift.frame }) lift.start before.formed (kept before) (right before) legal fields before.parts q address is_come in
      record {
        procs = slot.proc;
        charged = charged;
        kept = charged_is;
        of = q;
        slot = m;
        lies = charged_lies;
        few = slot.slot;
        empty = can_put_in_slot config past a seat (record { 0 = lift.frame }) lift.start before.formed (kept before) (right before) legal fields before.parts q address is_come y read;
      }

  module _ (y : ProcessRow) (y_read : y ≡ slice_index_or fields.processes q.0 y) (row' : ProcessRow) (slot : ℕ) (pages' : ChargedTable) (swaps' : SwapTable) (home : HasComeHome q.0 v y row' fields.pages pages' fields.swaps swaps' slot)
      (frames' : Frames) (free : frames'.free ≡ (fields.frames).free) (modified : frames'.modified ≡ (fields.frames).modified)
      (tables' : PageTables) (old : Pte) (there : pte_in fields.tables q.0 v ≡ Some old) (procs : tables'.procs ≡ (fields.tables).procs)
      (store' : StoreView B) (landed_is : store' ≡ landed (record store { frames = frames' }) lift) (n : ℕ) (read : n ≡ slice_index_or fields.busy seat.0 n) (same : fields.starts ≡ store.flights) where
    slot_is : slot ≡ m
    slot_is =
        let one : home.charged ≡ charged = same_Some _ _ (sym home.kept ∙ charged_is) in
        let both : Some (block.Swap home.of slot) ≡ Some (block.Swap q m) = sym home.lies ∙ (ap (λ (c : ChargedPage). c.lies) one ∙ charged_lies) in
        cc both

    -- with the names of the frame and of the transfer's start
    abbrev ClosesCome : ProcessRow → ℕ → Pfn → ℕ → Type 0
    ClosesCome row held f k =
        frames'.rows ≡ slice_set (fields.frames).rows f.0 (record (row_of fields.frames f.0) {
          state = state.Active;
          modify = true;
          refs = counted_references ((row_of fields.frames f.0).shares + 1) 0 + uncounted (row_of fields.frames f.0);
          shares = (row_of fields.frames f.0).shares + 1;
          slot = held;
          flights = 0;
        })
        → ((p w : ℕ) → pte_in tables' p w ≡ changed_at (pte_in fields.tables) q.0 v (Some (record { prot = old.prot; place = place.Valid false f })) p w)
        → IsState seen tells config (record { seat = seat; what = what.InOk f k } ∷ past) (spare - 1) store'
        (record fields {
          frames = store'.frames;
          starts = store'.flights;
          roles = slice_set fields.roles f.0 None;
          processes = slice_set fields.processes q.0 row;
          tables = tables';
          pages = pages';
          swaps = swaps';
          busy = slice_set fields.busy seat.0 (n - 1);
          in_flight = fields.in_flight - 1;
        }) numbers

    come_here : lift.result ≡ Good → length lift.buffer ≡ PAGE_BYTES → owed (record { seat = seat; what = what.InOk (record { 0 = lift.frame }) lift.start } ∷ past) + 1 ≤ spare
        → ClosesCome (record y { ring = slotted y.ring m v }) m (record { 0 = lift.frame }) lift.start
    come_here good_now size paid rows changed =
        let its = legal.row in
        let on = ended.on before seat lift legal fits in
        rw (landed_is, land.landed_is before seat lift fits its.flight its.role its.lands its.reads on.within on.state frames')
        (subst (λ (starts : List (Option ℕ)). IsState seen tells config (record { seat = seat; what = what.InOk (record { 0 = lift.frame }) lift.start } ∷ past) (spare - 1)
        (land.store_after before seat lift fits its.flight its.role its.lands its.reads on.within on.state frames')
        (record fields {
          frames = frames';
          starts = slice_set starts lift.frame None;
          roles = slice_set fields.roles lift.frame None;
          processes = slice_set fields.processes q.0 (record y { ring = slotted y.ring m v });
          tables = tables';
          pages = pages';
          swaps = swaps';
          busy = slice_set fields.busy seat.0 (n - 1);
          in_flight = fields.in_flight - 1;
        }) numbers) same
        (closed before (record { seat = seat; what = what.InOk (record { 0 = lift.frame }) lift.start }) (λ told. tt) legal paid (land.store_after before seat lift fits its.flight its.role its.lands its.reads on.within on.state frames') _
        (in_ok_come_parts config past a seat (record { 0 = lift.frame }) lift.start (kept before) (right before) legal fields before.parts q address is_come y y_read
        frames' rows free modified old there tables' procs changed home.charged home.kept pages' home.pages_changed swaps' home.swaps_procs
        (subst (λ (s : ℕ). (p w : ℕ) → swapped_at swaps' p w ≡ changed_at (swapped_at fields.swaps) q.0 s None p w) slot_is home.swaps_changed) n read)
        (land.brings before seat lift fits its.flight its.role its.lands its.reads on.within on.state frames' good (ap result_of good_now) size)
        (land.places before seat lift fits its.flight its.role its.lands its.reads on.within on.state frames')))

    pub come_closes : (f : Pfn) (k : ℕ) → f.0 ≡ lift.frame → k ≡ lift.start → lift.result ≡ Good → length lift.buffer ≡ PAGE_BYTES
        → owed (record { seat = seat; what = what.InOk (record { 0 = lift.frame }) lift.start } ∷ past) + 1 ≤ spare → ClosesCome row' slot f k
    come_closes f k f_is k_is good_now size paid =
        let named : f ≡ record { 0 = lift.frame } = ap (λ (h : ℕ). pfn h) f_is in
        let row_is : row' ≡ record y { ring = slotted y.ring m v } = home.row ∙ ap (λ (s : ℕ). record y { ring = slotted y.ring s v }) slot_is in
        subst₂ (ClosesCome row' slot) (sym named) (sym k_is)
        (subst₂ (λ (row : ProcessRow) (s : ℕ). ClosesCome row s (record { 0 = lift.frame }) lift.start) (sym row_is) (sym slot_is) (come_here good_now size paid))
