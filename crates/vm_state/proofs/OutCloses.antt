-- OUT closes, and its calls may be made.
use Rattle.std.proofs.Common.{◌≡◌, ℕ, ◌+◌, ◌-◌, ◌≤◌, false, List, ◌∷◌, Option, Some, None, length, slice_set, refl, sym, subst, subst₂}
use Rattle.vm_types.specs.BlockView.{BlockView, Tells}
use Rattle.vm_types.specs.declared.config.Config.{Config}
use Rattle.vm_types.specs.declared.names.BlockId.{BlockId}
use Rattle.vm_types.specs.declared.names.Page.{Page}
use Rattle.vm_types.specs.declared.names.Pfn.{Pfn}
use Rattle.vm_types.specs.declared.names.Seat.{Seat}
use Rattle.vm_journal.specs.declared.entry.Entry.{Entry}
use Rattle.vm_journal.specs.declared.entry.What.TheVariants as what
use Rattle.page_file.specs.Blocks.{Blocks}
use Rattle.pfn_database.specs.Frames.{Frames, row_of}
use Rattle.pager_model.specs.Pager.{Pager}
use Rattle.pager_model.specs.Run.{pager_after}
use Rattle.pager_model.specs.Step.{IsLegal}
use Rattle.frame_store.specs.LiftView.{LiftView}
use Rattle.frame_store.specs.StoreView.{StoreView, lifted_out}
use Rattle.state_parts.specs.ChargedTable.{ChargedTable, kept_at}
use Rattle.state_fits.specs.Parts.{Parts}
use Rattle.state_fits.specs.Writes.{block_taken}
use Rattle.state_fits.proofs.OutCan.{can_give_block}
use Rattle.state_fits.proofs.OutParts.{IsOutDone, out_parts}
use Rattle.state_pages.specs.WriteMoves.{MayGive}
use Rattle.state_pages.proofs.MayMove.{may_give}
use Rattle.vm_state.specs.History.{History, owed}
use Rattle.vm_state.specs.LiftsBegin.{HasBegun}
use Rattle.vm_state.specs.StateKept.{IsState}
use Rattle.vm_state.proofs.Closing.{closed, kept, right}
use Rattle.vm_state.proofs.WriteBegins as begin

-- what a method ensures of a lift is of the value, what is known is of the fields
pub begun_before : {B : Type 0} (seen : B → BlockView) (tells : Tells) (seat : Seat) (f : Pfn) (b : BlockId) (lift : LiftView B) {s t : History} → s ≡ t
    → HasBegun seen tells s seat (what.Out f b) f.0 b false lift → HasBegun seen tells t seat (what.Out f b) f.0 b false lift
begun_before seen tells seat f b lift same begun = subst (λ (x : History). HasBegun seen tells x seat (what.Out f b) f.0 b false lift) same begun

module _ {B : Type 0} {seen : B → BlockView} {tells : Tells} {config : Config} {past : List Entry} {spare : ℕ} {store : StoreView B} {fields : Parts} {numbers : List ℕ}
    (before : IsState seen tells config past spare store fields numbers) (seat : Seat) (f : Pfn) (b : BlockId)
    (legal : IsLegal config past (pager_after config past) (record { seat = seat; what = what.Out f b })) where
  abbrev a : Pager
  a = pager_after config past

  pub may : (g : Page) → (row_of fields.frames f.0).page ≡ Some g → MayGive fields.pages fields.file b g
  may g page = may_give fields b g (λ n goes. can_give_block config past a seat f b before.formed (kept before) (right before) legal fields before.parts g n page goes)

  module _ (frames' : Frames) (store' : StoreView B) (n : ℕ) (same : fields.starts ≡ store.flights) (pages' : ChargedTable) (g : Page) where
    -- with the number of the entry, and the page file
    abbrev Closes : ℕ → Blocks → Type 0
    Closes k file' =
        store' ≡ lifted_out (record store { frames = frames' }) f.0 b k
        → IsState seen tells config (record { seat = seat; what = what.Out f b } ∷ past) (spare - 1) store'
        (record fields { frames = store'.frames; starts = store'.flights; roles = slice_set fields.roles f.0 None; pages = pages'; file = file'; busy = slice_set fields.busy seat.0 (n + 1); in_flight = fields.in_flight + 1 }) numbers

    closes_here : owed (record { seat = seat; what = what.Out f b } ∷ past) + 1 ≤ spare → IsOutDone fields (length past + 1) seat.0 f.0 b g frames' n pages' → Closes (length past + 1) (block_taken b g (kept_at fields.pages g) fields.file)
    closes_here paid done lifted =
        rw lifted
        (subst (λ (starts : List (Option ℕ)). IsState seen tells config (record { seat = seat; what = what.Out f b } ∷ past) (spare - 1)
        (begin.store_after before seat f b legal frames' (length past + 1))
        (record fields { frames = frames'; starts = slice_set starts f.0 (Some (length past + 1)); roles = slice_set fields.roles f.0 None; pages = pages'; file = block_taken b g (kept_at fields.pages g) fields.file; busy = slice_set fields.busy seat.0 (n + 1); in_flight = fields.in_flight + 1 }) numbers) same
        (closed before (record { seat = seat; what = what.Out f b }) (λ told. tt) legal paid (begin.store_after before seat f b legal frames' (length past + 1)) _
        (out_parts config past a seat f (kept before) fields before.parts b g legal frames' n pages' done)
        (refl, begin.block_away before seat f b legal frames' (length past + 1))
        (begin.places before seat f b legal frames' (length past + 1))))

    pub out_closes : (k : ℕ) → k ≡ length past + 1 → (file' : Blocks) → file' ≡ block_taken b g (kept_at fields.pages g) fields.file
        → owed (record { seat = seat; what = what.Out f b } ∷ past) + 1 ≤ spare → IsOutDone fields (length past + 1) seat.0 f.0 b g frames' n pages' → Closes k file'
    out_closes k number_is file' taken paid done = subst₂ Closes (sym number_is) (sym taken) (closes_here paid done)
