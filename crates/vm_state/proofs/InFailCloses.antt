-- INFAIL closes, and its calls may be made.
use Rattle.std.proofs.Common.{◌≡◌, ℕ, ◌+◌, ◌-◌, ◌≤◌, ◌<◌, List, ◌∷◌, Option, Some, None, length, slice_get, slice_index_or, slice_set, sym, ap, ◌∙◌, subst, subst₂}
use Rattle.vm_types.specs.declared.limits.TheConstants.{PAGE_BYTES}
use Rattle.vm_types.specs.BlockView.{BlockView, Tells}
use Rattle.vm_types.specs.declared.config.Config.{Config}
use Rattle.vm_types.specs.declared.names.BlockId.{BlockId}
use Rattle.vm_types.specs.declared.names.FrameState.TheVariants as state
use Rattle.vm_types.specs.declared.names.Pfn.{Pfn}
use Rattle.vm_types.specs.declared.names.Seat.{Seat}
use Rattle.vm_journal.specs.declared.entry.Entry.{Entry}
use Rattle.vm_journal.specs.declared.entry.What.TheVariants as what
use Rattle.pfn_database.specs.Frames.{Frames, row_of}
use Rattle.pfn_database.specs.Rows.{counted_references, uncounted}
use Rattle.pfn_database.specs.declared.row.Row.{Row}
use Rattle.pager_model.specs.Fits.{bad}
use Rattle.pager_model.specs.Flights.{open_flights, without_flight}
use Rattle.pager_model.specs.Pager.{Pager}
use Rattle.pager_model.specs.Run.{pager_after}
use Rattle.pager_model.specs.Step.{IsLegal}
use Rattle.frame_store.specs.Blocks.{held_at, number_in}
use Rattle.frame_store.specs.LiftView.{LiftView}
use Rattle.frame_store.specs.StoreView.{StoreView, landed}
use Rattle.frame_store.specs.declared.lift.Carried.TheVariants.{Bad}
use Rattle.state_fits.specs.Parts.{Parts}
use Rattle.state_fits.proofs.InFailParts.{in_fail_on, in_fail_parts}
use Rattle.state_fits.proofs.LandingCan.{CanLand, can_fail}
use Rattle.state_fits.proofs.ReadLanded.{IsLandedOn}
use Rattle.vm_state.specs.History.{owed}
use Rattle.lift_carriers.specs.LiftsFit.{LiftFits, result_of}
use Rattle.vm_state.specs.StateKept.{IsState}
use Rattle.vm_state.proofs.Closing.{closed, kept}
use Rattle.vm_state.proofs.ReadLands as land

module _ {B : Type 0} {seen : B → BlockView} {tells : Tells} {config : Config} {past : List Entry} {spare : ℕ} {store : StoreView B} {fields : Parts} {numbers : List ℕ}
    (before : IsState seen tells config past spare store fields numbers) (seat : Seat) (lift : LiftView B) (c d : ℕ)
    (legal : IsLegal config past (pager_after config past) (record { seat = seat; what = what.InFail (record { 0 = lift.frame }) lift.start c d }))
    (fits : LiftFits seen tells config past lift) where
  abbrev a : Pager
  a = pager_after config past

  abbrev on : IsLandedOn config a (open_flights past) (without_flight lift.start (open_flights past)) lift.frame
  on = in_fail_on config past a seat (record { 0 = lift.frame }) lift.start c d (kept before) legal fields before.parts

  pub can : CanLand fields seat.0 lift.frame legal.row.role on.page
  can = can_fail config past a seat (record { 0 = lift.frame }) lift.start c d (kept before) legal fields before.parts

  pub is_reading : (row_of fields.frames lift.frame).state ≡ state.Reading
  is_reading = ap (λ (row : Row). row.state) can.row

  pub one_flight : (row_of fields.frames lift.frame).flights ≡ 1
  one_flight = ap (λ (row : Row). row.flights) can.row

  pub frame_there : lift.frame < length store.buffers
  frame_there = land.frame_there before seat lift fits legal.row.flight legal.row.role legal.row.lands legal.row.reads on.within on.state

  pub buffer_out : held_at store.buffers lift.frame ≡ None
  buffer_out = land.buffer_out before seat lift fits legal.row.flight legal.row.role legal.row.lands legal.row.reads on.within on.state

  pub block_out : slice_get store.blocks (number_in store.ids lift.block) ≡ Some None
  block_out = land.block_out before seat lift fits legal.row.flight legal.row.role legal.row.lands legal.row.reads on.within on.state

  module _ (frames' : Frames) (free : frames'.free ≡ (fields.frames).free) (modified : frames'.modified ≡ (fields.frames).modified) (store' : StoreView B) (landed_is : store' ≡ landed (record store { frames = frames' }) lift)
      (n : ℕ) (read : n ≡ slice_index_or fields.busy seat.0 n) (same : fields.starts ≡ store.flights) where
    -- with the names of the frame and of the transfer's start
    abbrev Closes : Option BlockId → ℕ → ℕ → Type 0
    Closes failed f k =
        frames'.rows ≡ slice_set (fields.frames).rows f (record (row_of fields.frames f) { state = state.ReadError; refs = counted_references (row_of fields.frames f).shares 0 + uncounted (row_of fields.frames f); flights = 0 })
        → IsState seen tells config (record { seat = seat; what = what.InFail (record { 0 = f }) k c d } ∷ past) (spare - 1) store'
        (record fields { frames = store'.frames; starts = store'.flights; roles = slice_set fields.roles f None; busy = slice_set fields.busy seat.0 (n - 1); in_flight = fields.in_flight - 1; failed = failed }) numbers

    closes_here : lift.result ≡ Bad c d → length lift.buffer ≡ PAGE_BYTES → owed (record { seat = seat; what = what.InFail (record { 0 = lift.frame }) lift.start c d } ∷ past) + 1 ≤ spare → Closes (Some legal.row.flight.block) lift.frame lift.start
    closes_here ended size paid rows =
        let its = legal.row in
        rw (landed_is, land.landed_is before seat lift fits its.flight its.role its.lands its.reads on.within on.state frames')
        (subst (λ (starts : List (Option ℕ)). IsState seen tells config (record { seat = seat; what = what.InFail (record { 0 = lift.frame }) lift.start c d } ∷ past) (spare - 1)
        (land.store_after before seat lift fits its.flight its.role its.lands its.reads on.within on.state frames')
        (record fields { frames = frames'; starts = slice_set starts lift.frame None; roles = slice_set fields.roles lift.frame None; busy = slice_set fields.busy seat.0 (n - 1); in_flight = fields.in_flight - 1; failed = Some its.flight.block }) numbers) same
        (closed before (record { seat = seat; what = what.InFail (record { 0 = lift.frame }) lift.start c d }) (λ told. tt) legal paid (land.store_after before seat lift fits its.flight its.role its.lands its.reads on.within on.state frames') _
        (in_fail_parts config past a seat (record { 0 = lift.frame }) lift.start c d (kept before) legal fields before.parts frames' rows free modified n read)
        (land.brings before seat lift fits its.flight its.role its.lands its.reads on.within on.state frames' (bad c d) (ap result_of ended) size)
        (land.places before seat lift fits its.flight its.role its.lands its.reads on.within on.state frames')))

    pub in_fail_closes : (f : Pfn) (k : ℕ) (failed : Option BlockId) → f.0 ≡ lift.frame → k ≡ lift.start → failed ≡ Some lift.block → lift.result ≡ Bad c d → length lift.buffer ≡ PAGE_BYTES
        → owed (record { seat = seat; what = what.InFail (record { 0 = lift.frame }) lift.start c d } ∷ past) + 1 ≤ spare → Closes failed f.0 k
    in_fail_closes f k failed f_is k_is failed_is ended size paid =
        let its = legal.row in
        let block = land.block_is before seat lift fits its.flight its.role its.lands its.reads on.within on.state in
        subst₂ (Closes failed) (sym f_is) (sym k_is) (subst (λ (o : Option BlockId). Closes o lift.frame lift.start) (ap Some block ∙ sym failed_is) (closes_here ended size paid))
