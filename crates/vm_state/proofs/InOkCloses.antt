-- INOK closes, and its calls may be made.
use Rattle.std.proofs.Common.{◌≡◌, ℕ, ◌+◌, ◌-◌, ◌≤◌, ◌<◌, List, [], ◌∷◌, ◌++◌, Option, Some, None, length, slice_get, slice_index_or, slice_set, sym, ap, ◌∙◌, subst, subst₂}
use Rattle.std.proofs.lemmas.Option.{same_Some}
use Rattle.vm_types.specs.declared.limits.TheConstants.{PAGE_BYTES}
use Rattle.vm_types.specs.BlockView.{BlockView, Tells}
use Rattle.vm_types.specs.declared.config.Config.{Config}
use Rattle.vm_types.specs.declared.names.Page.{Page}
use Rattle.vm_types.specs.declared.names.FrameState.TheVariants as state
use Rattle.vm_types.specs.declared.names.Pfn.{Pfn}
use Rattle.vm_types.specs.declared.names.Seat.{Seat}
use Rattle.vm_journal.specs.declared.entry.Entry.{Entry}
use Rattle.vm_journal.specs.declared.entry.Role.{Role}
use Rattle.vm_journal.specs.declared.entry.Role.TheVariants as role
use Rattle.vm_journal.specs.declared.entry.What.TheVariants as what
use Rattle.pfn_database.specs.Frames.{Frames, row_of}
use Rattle.pfn_database.specs.Rows.{counted_references, uncounted}
use Rattle.pfn_database.specs.declared.row.Row.{Row}
use Rattle.pager_model.specs.Fits.{good}
use Rattle.pager_model.specs.Flights.{Flight, open_flights, without_flight}
use Rattle.pager_model.specs.Pager.{Pager}
use Rattle.pager_model.specs.Run.{pager_after}
use Rattle.pager_model.specs.Step.{IsLegal}
use Rattle.frame_store.specs.Blocks.{held_at, number_in}
use Rattle.frame_store.specs.LiftView.{LiftView}
use Rattle.frame_store.specs.StoreView.{StoreView, landed}
use Rattle.frame_store.specs.declared.lift.Carried.TheVariants.{Good}
use Rattle.state_fits.specs.Parts.{Parts}
use Rattle.state_fits.specs.Seats.{role_by}
use Rattle.state_fits.proofs.InOkParts.{in_ok_on, in_ok_near_parts}
use Rattle.state_fits.proofs.LandingCan.{CanLand, can_end}
use Rattle.state_fits.proofs.ReadLanded.{IsLandedOn}
use Rattle.vm_state.specs.History.{owed}
use Rattle.lift_carriers.specs.LiftsFit.{LiftFits, result_of}
use Rattle.vm_state.specs.ReadRoles.{IsReadAs}
use Rattle.vm_state.specs.StateKept.{IsState}
use Rattle.vm_state.proofs.Closing.{closed, kept, right}
use Rattle.vm_state.proofs.ReadLands as land

module _ {B : Type 0} {seen : B → BlockView} {tells : Tells} {config : Config} {past : List Entry} {spare : ℕ} {store : StoreView B} {fields : Parts} {numbers : List ℕ}
    (before : IsState seen tells config past spare store fields numbers) (seat : Seat) (lift : LiftView B)
    (legal : IsLegal config past (pager_after config past) (record { seat = seat; what = what.InOk (record { 0 = lift.frame }) lift.start }))
    (fits : LiftFits seen tells config past lift) where
  abbrev a : Pager
  a = pager_after config past

  abbrev pub on : IsLandedOn config a (open_flights past) (without_flight lift.start (open_flights past)) lift.frame
  on = in_ok_on config past a seat (record { 0 = lift.frame }) lift.start (kept before) (right before) legal fields before.parts

  pub can : CanLand fields seat.0 lift.frame legal.row.role on.page
  can = can_end config past a seat (record { 0 = lift.frame }) lift.start before.formed (kept before) (right before) legal fields before.parts

  pub is_reading : (row_of fields.frames lift.frame).state ≡ state.Reading
  is_reading = ap (λ (row : Row). row.state) can.row

  pub one_flight : (row_of fields.frames lift.frame).flights ≡ 1
  one_flight = ap (λ (row : Row). row.flights) can.row

  pub frame_there : lift.frame < length store.buffers
  frame_there = land.frame_there before seat lift fits legal.row.flight legal.row.role legal.row.lands legal.row.reads on.within on.state

  pub buffer_out : held_at store.buffers lift.frame ≡ None
  buffer_out = land.buffer_out before seat lift fits legal.row.flight legal.row.role legal.row.lands legal.row.reads on.within on.state

  pub block_out : slice_get store.blocks (number_in store.ids lift.block) ≡ Some None
  block_out = land.block_out before seat lift fits legal.row.flight legal.row.role legal.row.lands legal.row.reads on.within on.state

  -- its role
  pub role_is : (r : Role) → IsReadAs past lift.start r → legal.row.role ≡ r
  role_is r as_role =
      let one : legal.row.flight ≡ as_role.0 = same_Some _ _ (sym legal.row.lands.open_k ∙ as_role.1) in
      same_Some _ _ (ap role_by (sym legal.row.reads ∙ (ap (λ (x : Flight). x.direction) one ∙ as_role.2)))

  module _ (frames' : Frames) (modified : frames'.modified ≡ (fields.frames).modified) (store' : StoreView B) (landed_is : store' ≡ landed (record store { frames = frames' }) lift)
      (n : ℕ) (read : n ≡ slice_index_or fields.busy seat.0 n) (same : fields.starts ≡ store.flights) where
    -- NEAR, with the names of the frame and of the transfer's start
    abbrev ClosesNear : ℕ → ℕ → Type 0
    ClosesNear f k =
        frames'.rows ≡ slice_set (fields.frames).rows f (record (row_of fields.frames f) { state = state.Free; slot = 0; refs = counted_references (row_of fields.frames f).shares 0 + uncounted (row_of fields.frames f); flights = 0 })
        → frames'.free ≡ (fields.frames).free ++ f ∷ []
        → IsState seen tells config (record { seat = seat; what = what.InOk (record { 0 = f }) k } ∷ past) (spare - 1) store'
        (record fields { frames = store'.frames; starts = store'.flights; roles = slice_set fields.roles f None; busy = slice_set fields.busy seat.0 (n - 1); in_flight = fields.in_flight - 1 }) numbers

    near_here : (g : Page) → legal.row.role ≡ role.Near g → lift.result ≡ Good → length lift.buffer ≡ PAGE_BYTES → owed (record { seat = seat; what = what.InOk (record { 0 = lift.frame }) lift.start } ∷ past) + 1 ≤ spare → ClosesNear lift.frame lift.start
    near_here g near ended size paid rows free =
        let its = legal.row in
        rw (landed_is, land.landed_is before seat lift fits its.flight its.role its.lands its.reads on.within on.state frames')
        (subst (λ (starts : List (Option ℕ)). IsState seen tells config (record { seat = seat; what = what.InOk (record { 0 = lift.frame }) lift.start } ∷ past) (spare - 1)
        (land.store_after before seat lift fits its.flight its.role its.lands its.reads on.within on.state frames')
        (record fields { frames = frames'; starts = slice_set starts lift.frame None; roles = slice_set fields.roles lift.frame None; busy = slice_set fields.busy seat.0 (n - 1); in_flight = fields.in_flight - 1 }) numbers) same
        (closed before (record { seat = seat; what = what.InOk (record { 0 = lift.frame }) lift.start }) (λ told. tt) legal paid (land.store_after before seat lift fits its.flight its.role its.lands its.reads on.within on.state frames') _
        (in_ok_near_parts config past a seat (record { 0 = lift.frame }) lift.start (kept before) (right before) legal fields before.parts g near frames' rows free modified n read)
        (land.brings before seat lift fits its.flight its.role its.lands its.reads on.within on.state frames' good (ap result_of ended) size)
        (land.places before seat lift fits its.flight its.role its.lands its.reads on.within on.state frames')))

    pub near_closes : (f : Pfn) (k : ℕ) → f.0 ≡ lift.frame → k ≡ lift.start → (g : Page) → IsReadAs past lift.start (role.Near g) → lift.result ≡ Good → length lift.buffer ≡ PAGE_BYTES
        → owed (record { seat = seat; what = what.InOk (record { 0 = lift.frame }) lift.start } ∷ past) + 1 ≤ spare → ClosesNear f.0 k
    near_closes f k f_is k_is g near ended size paid = subst₂ ClosesNear (sym f_is) (sym k_is) (near_here g (role_is (role.Near g) near) ended size paid)
