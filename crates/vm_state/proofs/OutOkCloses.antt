-- OUTOK closes, and its calls may be made.
use Rattle.std.proofs.Common.{◌≡◌, ℕ, ◌+◌, ◌-◌, ◌≤◌, ◌<◌, false, List, ◌∷◌, Option, Some, None, length, slice_get, slice_set, refl, sym, ap, ◌∙◌, subst, subst₂, arith}
use Rattle.std.specs.Prelude.{IsSome, is_some}
use Rattle.vm_types.specs.BlockView.{BlockView, Tells}
use Rattle.vm_types.specs.declared.config.Config.{Config}
use Rattle.vm_types.specs.declared.names.BlockId.{BlockId}
use Rattle.vm_types.specs.declared.names.Page.{Page}
use Rattle.vm_types.specs.declared.names.Pfn.{Pfn}
use Rattle.vm_types.specs.declared.names.Seat.{Seat}
use Rattle.vm_journal.specs.declared.entry.Entry.{Entry}
use Rattle.vm_journal.specs.declared.entry.What.TheVariants as what
use Rattle.pfn_database.specs.Frames.{Frames, row_of}
use Rattle.pfn_database.specs.declared.row.Row.{Row}
use Rattle.pager_model.specs.Fits.{good}
use Rattle.pager_model.specs.Flights.{open_flights, without_flight}
use Rattle.pager_model.specs.Pager.{Pager}
use Rattle.pager_model.specs.Run.{pager_after}
use Rattle.pager_model.specs.Step.{IsLegal}
use Rattle.frame_store.specs.Blocks.{number_in}
use Rattle.frame_store.specs.LiftView.{LiftView}
use Rattle.frame_store.specs.StoreView.{StoreView, landed}
use Rattle.frame_store.specs.declared.lift.Carried.TheVariants.{Good}
use Rattle.state_parts.specs.ChargedTable.{ChargedTable, IsTableSet, kept_at}
use Rattle.state_parts.specs.SwapTable.{SwapTable, swapped_at}
use Rattle.state_fits.specs.Parts.{Parts}
use Rattle.state_fits.specs.Writes.{landed_row, swaps_landed}
use Rattle.state_fits.proofs.OutLandingCan.{CanEndWrite, CanLieIn, can_end_write, can_lie_in}
use Rattle.state_fits.proofs.OutLandingParts.{IsLandingDone, landing_on, out_ok_parts}
use Rattle.state_fits.proofs.OutParts.{row_page}
use Rattle.state_fits.proofs.WriteLanded.{IsWrittenOn}
use Rattle.state_pages.specs.WriteMoves.{MayLie}
use Rattle.state_pages.proofs.MayMove.{may_lie}
use Rattle.vm_state.specs.History.{owed}
use Rattle.lift_carriers.specs.LiftsFit.{LiftFits, result_of}
use Rattle.vm_state.specs.StateKept.{IsState}
use Rattle.vm_state.proofs.Closing.{closed, kept, right}
use Rattle.vm_state.proofs.WriteLands as land

-- the page and the swap blocks after it, with the row that was read before, and the block's name
pub pages_after : (pages pages' : ChargedTable) (g : Page) (row r : Row) → row ≡ r → (c b : BlockId) → c ≡ b → IsTableSet pages pages' g (landed_row row.modify c (kept_at pages g)) → IsTableSet pages pages' g (landed_row r.modify b (kept_at pages g))
pages_after pages pages' g row r read c b named now = subst₂ (λ (x : Row) (d : BlockId). IsTableSet pages pages' g (landed_row x.modify d (kept_at pages g))) read named now

pub swaps_after : (pages : ChargedTable) (swaps swaps' : SwapTable) (g : Page) (row r : Row) → row ≡ r → (c b : BlockId) → c ≡ b → ((q m : ℕ) → swapped_at swaps' q m ≡ swaps_landed row.modify g c (kept_at pages g) (swapped_at swaps) q m)
    → (q m : ℕ) → swapped_at swaps' q m ≡ swaps_landed r.modify g b (kept_at pages g) (swapped_at swaps) q m
swaps_after pages swaps swaps' g row r read c b named now = subst₂ (λ (x : Row) (d : BlockId). (q m : ℕ) → swapped_at swaps' q m ≡ swaps_landed x.modify g d (kept_at pages g) (swapped_at swaps) q m) read named now

module _ {B : Type 0} {seen : B → BlockView} {tells : Tells} {config : Config} {past : List Entry} {spare : ℕ} {store : StoreView B} {fields : Parts} {numbers : List ℕ}
    (before : IsState seen tells config past spare store fields numbers) (seat : Seat) (lift : LiftView B)
    (legal : IsLegal config past (pager_after config past) (record { seat = seat; what = what.OutOk (record { 0 = lift.frame }) lift.start }))
    (fits : LiftFits seen tells config past lift) where
  abbrev a : Pager
  a = pager_after config past

  there : seat.0 < length config.procs + 2
  there = let few = legal.line.seat in omega (arith, few)

  on : IsWrittenOn config a (open_flights past) (without_flight lift.start (open_flights past)) legal.row.flight lift.frame
  on = landing_on config past a seat (record { 0 = lift.frame }) lift.start legal.row.flight (kept before) legal.row.lands legal.row.writes there fields before.parts

  pub can : CanEndWrite fields seat.0 lift.frame
  can = can_end_write config past a seat (record { 0 = lift.frame }) lift.start legal.row.flight before.formed (kept before) (right before) legal.row.lands legal.row.writes there fields before.parts

  -- the frame holds a page
  pub held : (row : Row) → row ≡ row_of fields.frames lift.frame → IsSome row.page
  held row read = subst (λ (r : Row). IsSome r.page) (sym read) (ap is_some (row_page config past a seat (record { 0 = lift.frame }) (kept before) fields before.parts ∙ on.holds))

  pub may : (row : Row) → row ≡ row_of fields.frames lift.frame → (g : Page) → row.page ≡ Some g → (c : BlockId) → c ≡ lift.block → MayLie fields.pages fields.swaps g c
  may row read g page c named =
      subst (MayLie fields.pages fields.swaps g) (sym named)
      (may_lie fields g lift.block
      (λ p v is. subst (λ (b : BlockId). CanLieIn fields b p v) (land.block_is before seat lift fits legal.row.flight legal.row.lands legal.row.writes on.within)
      (can_lie_in config past a seat (record { 0 = lift.frame }) lift.start legal.row.flight before.formed (kept before) (right before) legal.row.lands legal.row.writes there fields before.parts p v
      (ap (λ (r : Row). r.page) (sym read) ∙ (page ∙ ap Some is)))))

  pub frame_there : lift.frame < length store.buffers
  frame_there = land.frame_there before seat lift fits legal.row.flight legal.row.lands legal.row.writes on.within

  pub block_out : slice_get store.blocks (number_in store.ids lift.block) ≡ Some None
  block_out = land.block_out before seat lift fits legal.row.flight legal.row.lands legal.row.writes on.within

  module _ (frames' : Frames) (store' : StoreView B) (landed_is : store' ≡ landed (record store { frames = frames' }) lift) (n : ℕ) (same : fields.starts ≡ store.flights) (pages' : ChargedTable) (swaps' : SwapTable) (g : Page) where
    -- with the names of the block, of the frame and of the transfer's start
    abbrev Closes : BlockId → ℕ → ℕ → Type 0
    Closes b f k =
        IsLandingDone fields seat.0 f b g false frames' n pages' swaps'
        → IsState seen tells config (record { seat = seat; what = what.OutOk (record { 0 = f }) k } ∷ past) (spare - 1) store'
        (record fields { frames = store'.frames; starts = store'.flights; roles = slice_set fields.roles f None; pages = pages'; swaps = swaps'; busy = slice_set fields.busy seat.0 (n - 1); in_flight = fields.in_flight - 1 }) numbers

    closes_here : lift.result ≡ Good → owed (record { seat = seat; what = what.OutOk (record { 0 = lift.frame }) lift.start } ∷ past) + 1 ≤ spare → Closes (legal.row.flight).block lift.frame lift.start
    closes_here ended paid done =
        let its = legal.row in
        rw (landed_is, land.landed_is before seat lift fits its.flight its.lands its.writes on.within frames')
        (subst (λ (starts : List (Option ℕ)). IsState seen tells config (record { seat = seat; what = what.OutOk (record { 0 = lift.frame }) lift.start } ∷ past) (spare - 1)
        (land.store_after before seat lift fits its.flight its.lands its.writes on.within frames')
        (record fields { frames = frames'; starts = slice_set starts lift.frame None; roles = slice_set fields.roles lift.frame None; pages = pages'; swaps = swaps'; busy = slice_set fields.busy seat.0 (n - 1); in_flight = fields.in_flight - 1 }) numbers) same
        (closed before (record { seat = seat; what = what.OutOk (record { 0 = lift.frame }) lift.start }) (λ told. tt) legal paid (land.store_after before seat lift fits its.flight its.lands its.writes on.within frames') _
        (out_ok_parts config past a seat (record { 0 = lift.frame }) lift.start (kept before) fields before.parts legal g frames' n pages' swaps' done)
        (refl, land.brings before seat lift fits its.flight its.lands its.writes on.within frames' good (ap result_of ended))
        (land.places before seat lift fits its.flight its.lands its.writes on.within frames')))

    pub out_ok_closes : (f : Pfn) (k : ℕ) → f.0 ≡ lift.frame → k ≡ lift.start → lift.result ≡ Good
        → owed (record { seat = seat; what = what.OutOk (record { 0 = lift.frame }) lift.start } ∷ past) + 1 ≤ spare → Closes lift.block f.0 k
    out_ok_closes f k f_is k_is ended paid =
        let its = legal.row in
        let block = land.block_is before seat lift fits its.flight its.lands its.writes on.within in
        subst₂ (Closes lift.block) (sym f_is) (sym k_is) (subst (λ (b : BlockId). Closes b lift.frame lift.start) block (closes_here ended paid))
