-- OUTFAIL closes, and its calls may be made.
use Rattle.std.proofs.Common.{◌≡◌, ℕ, ◌+◌, ◌-◌, ◌≤◌, ◌<◌, true, List, ◌∷◌, Option, Some, None, length, slice_get, slice_set, refl, sym, ap, ◌∙◌, subst, subst₂, arith}
use Rattle.vm_types.specs.BlockView.{BlockView, Tells}
use Rattle.vm_types.specs.declared.config.Config.{Config}
use Rattle.vm_types.specs.declared.names.BlockId.{BlockId}
use Rattle.vm_types.specs.declared.names.Pfn.{Pfn}
use Rattle.vm_types.specs.declared.names.Seat.{Seat}
use Rattle.vm_journal.specs.declared.entry.Entry.{Entry}
use Rattle.vm_journal.specs.declared.entry.What.TheVariants as what
use Rattle.pfn_database.specs.Frames.{Frames, row_of}
use Rattle.pager_model.specs.Fits.{bad}
use Rattle.pager_model.specs.Flights.{open_flights, without_flight}
use Rattle.pager_model.specs.Pager.{Pager}
use Rattle.pager_model.specs.Run.{pager_after}
use Rattle.pager_model.specs.Step.{IsLegal}
use Rattle.frame_store.specs.Blocks.{number_in}
use Rattle.frame_store.specs.LiftView.{LiftView}
use Rattle.frame_store.specs.StoreView.{StoreView, landed}
use Rattle.frame_store.specs.declared.lift.Carried.TheVariants.{Bad}
use Rattle.state_fits.specs.Parts.{Parts}
use Rattle.state_fits.proofs.OutLandingCan.{CanEndWrite, can_end_write}
use Rattle.state_fits.proofs.OutLandingParts.{IsLandingDone, landing_on, out_fail_parts}
use Rattle.state_fits.proofs.OutParts.{row_page}
use Rattle.state_fits.proofs.WriteLanded.{IsWrittenOn}
use Rattle.vm_state.specs.History.{owed}
use Rattle.lift_carriers.specs.LiftsFit.{LiftFits, result_of}
use Rattle.vm_state.specs.StateKept.{IsState}
use Rattle.vm_state.proofs.Closing.{closed, kept, right}
use Rattle.vm_state.proofs.WriteLands as land

module _ {B : Type 0} {seen : B → BlockView} {tells : Tells} {config : Config} {past : List Entry} {spare : ℕ} {store : StoreView B} {fields : Parts} {numbers : List ℕ}
    (before : IsState seen tells config past spare store fields numbers) (seat : Seat) (lift : LiftView B) (c d : ℕ)
    (legal : IsLegal config past (pager_after config past) (record { seat = seat; what = what.OutFail (record { 0 = lift.frame }) lift.start c d }))
    (fits : LiftFits seen tells config past lift) where
  abbrev a : Pager
  a = pager_after config past

  there : seat.0 < length config.procs + 2
  there = let few = legal.line.seat in omega (arith, few)

  pub on : IsWrittenOn config a (open_flights past) (without_flight lift.start (open_flights past)) legal.row.write.flight lift.frame
  on = landing_on config past a seat (record { 0 = lift.frame }) lift.start legal.row.write.flight (kept before) legal.row.write.lands legal.row.write.writes there fields before.parts

  pub can : CanEndWrite fields seat.0 lift.frame
  can = can_end_write config past a seat (record { 0 = lift.frame }) lift.start legal.row.write.flight before.formed (kept before) (right before) legal.row.write.lands legal.row.write.writes there fields before.parts

  -- the page that the frame holds
  pub holds : (h : ℕ) → h ≡ lift.frame → (row_of fields.frames h).page ≡ Some on.page
  holds h is = ap (λ (x : ℕ). (row_of fields.frames x).page) is ∙ (row_page config past a seat (record { 0 = lift.frame }) (kept before) fields before.parts ∙ on.holds)

  pub frame_there : lift.frame < length store.buffers
  frame_there = land.frame_there before seat lift fits legal.row.write.flight legal.row.write.lands legal.row.write.writes on.within

  pub block_out : slice_get store.blocks (number_in store.ids lift.block) ≡ Some None
  block_out = land.block_out before seat lift fits legal.row.write.flight legal.row.write.lands legal.row.write.writes on.within

  module _ (frames' : Frames) (store' : StoreView B) (landed_is : store' ≡ landed (record store { frames = frames' }) lift) (n : ℕ) (same : fields.starts ≡ store.flights) where
    -- with the names of the frame and of the transfer's start
    abbrev Closes : BlockId → ℕ → ℕ → Type 0
    Closes b f k =
        IsLandingDone fields seat.0 f b on.page true frames' n fields.pages fields.swaps
        → IsState seen tells config (record { seat = seat; what = what.OutFail (record { 0 = f }) k c d } ∷ past) (spare - 1) store'
        (record fields { frames = store'.frames; starts = store'.flights; roles = slice_set fields.roles f None; busy = slice_set fields.busy seat.0 (n - 1); in_flight = fields.in_flight - 1 }) numbers

    closes_here : lift.result ≡ Bad c d → owed (record { seat = seat; what = what.OutFail (record { 0 = lift.frame }) lift.start c d } ∷ past) + 1 ≤ spare → Closes (legal.row.write.flight).block lift.frame lift.start
    closes_here ended paid done =
        let its = legal.row.write in
        rw (landed_is, land.landed_is before seat lift fits its.flight its.lands its.writes on.within frames')
        (subst (λ (starts : List (Option ℕ)). IsState seen tells config (record { seat = seat; what = what.OutFail (record { 0 = lift.frame }) lift.start c d } ∷ past) (spare - 1)
        (land.store_after before seat lift fits its.flight its.lands its.writes on.within frames')
        (record fields { frames = frames'; starts = slice_set starts lift.frame None; roles = slice_set fields.roles lift.frame None; busy = slice_set fields.busy seat.0 (n - 1); in_flight = fields.in_flight - 1 }) numbers) same
        (closed before (record { seat = seat; what = what.OutFail (record { 0 = lift.frame }) lift.start c d }) (λ told. tt) legal paid (land.store_after before seat lift fits its.flight its.lands its.writes on.within frames') _
        (out_fail_parts config past a seat (record { 0 = lift.frame }) lift.start (kept before) fields before.parts c d legal on.page frames' n fields.pages fields.swaps done)
        (refl, land.brings before seat lift fits its.flight its.lands its.writes on.within frames' (bad c d) (ap result_of ended))
        (land.places before seat lift fits its.flight its.lands its.writes on.within frames')))

    pub out_fail_closes : (f : Pfn) (k : ℕ) → f.0 ≡ lift.frame → k ≡ lift.start → lift.result ≡ Bad c d
        → owed (record { seat = seat; what = what.OutFail (record { 0 = lift.frame }) lift.start c d } ∷ past) + 1 ≤ spare → Closes lift.block f.0 k
    out_fail_closes f k f_is k_is ended paid =
        let its = legal.row.write in
        let block = land.block_is before seat lift fits its.flight its.lands its.writes on.within in
        subst₂ (Closes lift.block) (sym f_is) (sym k_is) (subst (λ (b : BlockId). Closes b lift.frame lift.start) block (closes_here ended paid))
