-- The lift of a transfer that has just begun. This project's own.
use Rattle.std.specs.Prelude.{◌≡◌, ℕ, Bool, ◌+◌, ◌∷◌, length}
use Rattle.vm_types.specs.BlockView.{BlockView, Tells}
use Rattle.vm_types.specs.declared.names.BlockId.{BlockId}
use Rattle.vm_types.specs.declared.names.Seat.{Seat}
use Rattle.vm_journal.specs.declared.entry.What.{What}
use Rattle.frame_store.specs.LiftView.{LiftView, begun}
use Rattle.vm_state.specs.History.{History, entry_by}
use Rattle.lift_carriers.specs.LiftsFit.{LiftFits}

module _ {B : Type 0} (seen : B → BlockView) where
  -- it waits, has the number of the entry that began it and a buffer of the state's pool, and fits the journal after
  -- that entry; so its page is the one that the frame holds then
  pub record HasBegun (tells : Tells) (s : History) (seat : Seat) (w : What) (f : ℕ) (b : BlockId) (is_read : Bool) (lift : LiftView B) : Type 0 where
    pub begins : lift ≡ begun s.pool seat lift.page f b (length s.past + 1) is_read lift.buffer lift.held
    pub fits : LiftFits seen tells s.config (entry_by seat w ∷ s.past) lift
