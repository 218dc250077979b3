-- INOK closes where the page becomes valid, for a fault and for a process that comes back, and its calls may be made.
use Rattle.std.proofs.Common.{◌≡◌, ℕ, ◌+◌, ◌-◌, ◌≤◌, ◌<◌, Bool, false, List, ◌∷◌, Option, Some, None, IsSome, length, slice_index_or, slice_set, refl, sym, ap, ◌∙◌, subst, subst₂, arith}
use Rattle.std.proofs.lemmas.Option.{same_Some}
use Rattle.vm_types.specs.declared.limits.TheConstants.{PAGE_BYTES}
use Rattle.vm_types.specs.BlockView.{BlockView, Tells}
use Rattle.vm_types.specs.PagePlaces.{changed_at}
use Rattle.vm_types.specs.Ring.{Ring, choose, filled}
use Rattle.vm_types.specs.declared.config.Config.{Config}
use Rattle.vm_types.specs.declared.names.Addr.{Addr}
use Rattle.vm_types.specs.declared.names.BlockId.{BlockId}
use Rattle.vm_types.specs.declared.names.FrameState.TheVariants as state
use Rattle.vm_types.specs.declared.names.Page.{Page}
use Rattle.vm_types.specs.declared.names.Page.TheVariants.{Private, Shared}
use Rattle.vm_types.specs.declared.names.Pfn.{Pfn}
use Rattle.vm_types.specs.declared.names.Proc.{Proc}
use Rattle.vm_types.specs.declared.names.Seat.{Seat}
use Rattle.vm_types.specs.declared.ring_choice.Choice.TheVariants.{Empty}
use Rattle.vm_journal.specs.declared.entry.Entry.{Entry}
use Rattle.vm_journal.specs.declared.entry.Role.TheVariants as role
use Rattle.vm_journal.specs.declared.entry.What.TheVariants as what
use Rattle.global_pages.specs.GlobalPages.{GlobalPages}
use Rattle.page_tables.specs.PageTables.{PageTables, pte_in}
use Rattle.pte_forms.specs.declared.pte.Place.TheVariants as place
use Rattle.pte_forms.specs.declared.pte.Pte.{Pte}
use Rattle.pfn_database.specs.Frames.{Frames, row_of}
use Rattle.pfn_database.specs.Rows.{counted_references, uncounted}
use Rattle.pfn_database.specs.declared.row.Row.{Row}
use Rattle.pager_model.specs.Fits.{good}
use Rattle.pager_model.specs.Maps.{pfn, page_number}
use Rattle.pager_model.specs.InOk.{is_first_read}
use Rattle.pager_model.specs.Pager.{Pager}
use Rattle.pager_model.specs.Ring.{placed}
use Rattle.pager_model.specs.Run.{pager_after}
use Rattle.pager_model.specs.Step.{IsLegal}
use Rattle.frame_store.specs.LiftView.{LiftView}
use Rattle.frame_store.specs.StoreView.{StoreView, landed}
use Rattle.frame_store.specs.declared.lift.Carried.TheVariants.{Good}
use Rattle.state_parts.specs.declared.process_row.ProcessRow.{ProcessRow}
use Rattle.state_fits.specs.Changes.{page_slot, shared_in}
use Rattle.state_fits.specs.Parts.{Parts}
use Rattle.state_fits.proofs.InOkParts.{in_ok_fault_parts}
use Rattle.state_fits.proofs.LandingCan.{CanComeIn, can_fault_in, can_take_slot}
use Rattle.state_fits.proofs.EnterCan.{CanShare as CanShareThere}
use Rattle.vm_state.specs.History.{owed}
use Rattle.lift_carriers.specs.LiftsFit.{LiftFits, result_of}
use Rattle.vm_state.specs.ReadRoles.{IsReadAs}
use Rattle.state_pages.specs.SectionPages.{CanShare}
use Rattle.vm_state.specs.StateKept.{IsState}
use Rattle.vm_state.proofs.Closing.{closed, kept, right}
use Rattle.vm_state.proofs.InOkCloses as ended
use Rattle.vm_state.proofs.Numbered.{can_share}
use Rattle.vm_state.proofs.ReadLands as land

module _ {B : Type 0} {seen : B → BlockView} {tells : Tells} {config : Config} {past : List Entry} {spare : ℕ} {store : StoreView B} {fields : Parts} {numbers : List ℕ}
    (before : IsState seen tells config past spare store fields numbers) (seat : Seat) (lift : LiftView B)
    (legal : IsLegal config past (pager_after config past) (record { seat = seat; what = what.InOk (record { 0 = lift.frame }) lift.start }))
    (fits : LiftFits seen tells config past lift) (q : Proc) (address : Addr) where
  abbrev a : Pager
  a = pager_after config past

  abbrev v : ℕ
  v = page_number address.0

  abbrev g : Page
  g = (ended.on before seat lift legal fits).page

  pub row_page : (row_of fields.frames lift.frame).page ≡ Some g
  row_page = ap (λ (row : Row). row.page) (ended.can before seat lift legal fits).row

  pub row_held : IsSome (row_of fields.frames lift.frame).page
  row_held = subst IsSome (sym row_page) refl

  -- ---- FAULT
  module _ (as_fault : IsReadAs past lift.start (role.Fault q address)) where
    is_fault : legal.row.role ≡ role.Fault q address
    is_fault = ended.role_is before seat lift legal fits (role.Fault q address) as_fault

    pub fault_can : CanComeIn config fields q.0 v lift.frame g
    fault_can = can_fault_in config past a seat (record { 0 = lift.frame }) lift.start before.formed (kept before) (right before) legal fields before.parts q address is_fault

    pub fault_slot : (y : ProcessRow) → y ≡ slice_index_or fields.processes q.0 y → (filled (y.ring).slots < y.limit) × (y.limit ≤ length (y.ring).slots)
    fault_slot = can_take_slot config past a seat (record { 0 = lift.frame }) lift.start before.formed (kept before) (right before) legal fields before.parts q address is_fault

    can_share_page : (h : Page) → g ≡ h → CanShare config fields.globals h
    can_share_page h same = can_share config fields.globals h (by h same)
      where
        by : (h : Page) → g ≡ h → CanShareThere config fields.globals h
        by (Private p w) same = tt
        by (Shared s i) same = (fault_can.global s i same, let none = fault_can.few s i same in omega (arith, none))

    pub fault_share : (h : Page) → (row_of fields.frames lift.frame).page ≡ Some h → CanShare config fields.globals h
    fault_share h held = can_share_page h (same_Some _ _ (sym row_page ∙ held))

    module _ (h : Page) (held_page : (row_of fields.frames lift.frame).page ≡ Some h) (y : ProcessRow) (y_read : y ≡ slice_index_or fields.processes q.0 y) (slot : ℕ) (chosen : choose y.ring y.limit ≡ Empty slot)
        (frames' : Frames) (free : frames'.free ≡ (fields.frames).free) (modified : frames'.modified ≡ (fields.frames).modified)
        (tables' : PageTables) (old : Pte) (there : pte_in fields.tables q.0 v ≡ Some old) (procs : tables'.procs ≡ (fields.tables).procs) (globals' : GlobalPages) (shared : globals' ≡ shared_in config h fields.globals)
        (store' : StoreView B) (landed_is : store' ≡ landed (record store { frames = frames' }) lift) (n : ℕ) (read : n ≡ slice_index_or fields.busy seat.0 n) (same : fields.starts ≡ store.flights) where
      -- with the names of the frame and of the transfer's start
      abbrev ClosesFault : Ring → Bool → ℕ → Pfn → ℕ → Type 0
      ClosesFault ring modify held f k =
          frames'.rows ≡ slice_set (fields.frames).rows f.0 (record (row_of fields.frames f.0) {
            state = state.Active;
            modify = modify;
            refs = counted_references ((row_of fields.frames f.0).shares + 1) 0 + uncounted (row_of fields.frames f.0);
            shares = (row_of fields.frames f.0).shares + 1;
            slot = held;
            flights = 0;
          })
          → ((p w : ℕ) → pte_in tables' p w ≡ changed_at (pte_in fields.tables) q.0 v (Some (record { prot = old.prot; place = place.Valid false f })) p w)
          → IsState seen tells config (record { seat = seat; what = what.InOk f k } ∷ past) (spare - 1) store'
          (record fields {
            frames = store'.frames;
            starts = store'.flights;
            roles = slice_set fields.roles f.0 None;
            processes = slice_set fields.processes q.0 (record y { ring = ring });
            tables = tables';
            globals = globals';
            busy = slice_set fields.busy seat.0 (n - 1);
            in_flight = fields.in_flight - 1;
          }) numbers

      fault_here : lift.result ≡ Good → length lift.buffer ≡ PAGE_BYTES → owed (record { seat = seat; what = what.InOk (record { 0 = lift.frame }) lift.start } ∷ past) + 1 ≤ spare
          → ClosesFault (placed y.ring y.limit v) (is_first_read (Some h) legal.row.flight.block) (page_slot h slot) (record { 0 = lift.frame }) lift.start
      fault_here good_now size paid rows changed =
          let its = legal.row in
          let on = ended.on before seat lift legal fits in
          rw (landed_is, land.landed_is before seat lift fits its.flight its.role its.lands its.reads on.within on.state frames')
          (subst (λ (starts : List (Option ℕ)). IsState seen tells config (record { seat = seat; what = what.InOk (record { 0 = lift.frame }) lift.start } ∷ past) (spare - 1)
          (land.store_after before seat lift fits its.flight its.role its.lands its.reads on.within on.state frames')
          (record fields {
            frames = frames';
            starts = slice_set starts lift.frame None;
            roles = slice_set fields.roles lift.frame None;
            processes = slice_set fields.processes q.0 (record y { ring = placed y.ring y.limit v });
            tables = tables';
            globals = globals';
            busy = slice_set fields.busy seat.0 (n - 1);
            in_flight = fields.in_flight - 1;
          }) numbers) same
          (closed before (record { seat = seat; what = what.InOk (record { 0 = lift.frame }) lift.start }) (λ told. tt) legal paid (land.store_after before seat lift fits its.flight its.role its.lands its.reads on.within on.state frames') _
          (in_ok_fault_parts config past a seat (record { 0 = lift.frame }) lift.start (kept before) (right before) legal fields before.parts q address is_fault h held_page y y_read slot chosen
          frames' rows free modified old there tables' procs changed globals' shared n read)
          (land.brings before seat lift fits its.flight its.role its.lands its.reads on.within on.state frames' good (ap result_of good_now) size)
          (land.places before seat lift fits its.flight its.role its.lands its.reads on.within on.state frames')))

      pub fault_closes : (ring : Ring) → ring ≡ placed y.ring y.limit v → (id : BlockId) → id ≡ lift.block → (modify : Bool) → modify ≡ is_first_read (Some h) id → (held : ℕ) → held ≡ page_slot h slot
          → (f : Pfn) (k : ℕ) → f.0 ≡ lift.frame → k ≡ lift.start → lift.result ≡ Good → length lift.buffer ≡ PAGE_BYTES
          → owed (record { seat = seat; what = what.InOk (record { 0 = lift.frame }) lift.start } ∷ past) + 1 ≤ spare → ClosesFault ring modify held f k
      fault_closes ring ring_is id id_is modify modify_is held held_is f k f_is k_is good_now size paid =
          let its = legal.row in
          let on = ended.on before seat lift legal fits in
          let block : id ≡ its.flight.block = id_is ∙ sym (land.block_is before seat lift fits its.flight its.role its.lands its.reads on.within on.state) in
          let first : modify ≡ is_first_read (Some h) its.flight.block = modify_is ∙ ap (is_first_read (Some h)) block in
          let named : f ≡ record { 0 = lift.frame } = ap (λ (m : ℕ). pfn m) f_is in
          subst₂ (ClosesFault ring modify held) (sym named) (sym k_is)
          (subst (λ (r : Ring). ClosesFault r modify held (record { 0 = lift.frame }) lift.start) (sym ring_is)
          (subst₂ (λ (m : Bool) (s : ℕ). ClosesFault (placed y.ring y.limit v) m s (record { 0 = lift.frame }) lift.start) (sym first) (sym held_is) (fault_here good_now size paid)))
