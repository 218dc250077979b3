-- The entry that ends a transfer: the lift that was carried fixes its kind and its fields. This project's own.
use Rattle.std.specs.Prelude.{◌≡◌, ℕ, Bool, true, false}
use Rattle.vm_types.specs.BlockView.{BlockView, Tells}
use Rattle.vm_types.specs.declared.names.Seat.{Seat}
use Rattle.vm_journal.specs.declared.entry.Role.{Role}
use Rattle.vm_journal.specs.declared.entry.What.{What}
use Rattle.vm_journal.specs.declared.entry.What.TheVariants as what
use Rattle.pager_model.specs.Maps.{pfn}
use Rattle.frame_store.specs.LiftView.{LiftView}
use Rattle.frame_store.specs.declared.lift.Carried.{Carried}
use Rattle.frame_store.specs.declared.lift.Carried.TheVariants.{Bad, Good}
use Rattle.lift_carriers.specs.LiftsFit.{LiftFits}
use Rattle.vm_state.specs.History.{History, MayAdd, entry_by}
use Rattle.vm_state.specs.ReadRoles.{IsReadAs}

-- by whether it was a read, its frame, the number of its start, and how it went; one that still waits has no such
-- entry, and none is added for it
abbrev pub ended_as : Bool → ℕ → ℕ → Carried → What
ended_as true f k (Bad before after) = what.InFail (pfn f) k before after
ended_as true f k other = what.InOk (pfn f) k
ended_as false f k (Bad before after) = what.OutFail (pfn f) k before after
ended_as false f k other = what.OutOk (pfn f) k

abbrev pub landing_of : {B : Type 0} → LiftView B → What
landing_of lift = ended_as lift.is_read lift.frame lift.start lift.result

-- the block failed
abbrev pub HasFailed : Carried → Type 0
HasFailed (Bad before after) = Unit {0}
HasFailed other = ⊥

module _ {B : Type 0} (seen : B → BlockView) (tells : Tells) where
  -- a read, or a write, that went like this may end: its lift fits the journal and has a buffer of the state's pool
  pub record MayEnd (s : History) (seat : Seat) (lift : LiftView B) (is_read : Bool) (result : Carried) : Type 0 where
    pub may : MayAdd s (entry_by seat (ended_as is_read lift.frame lift.start result))
    pub fits : LiftFits seen tells s.config s.past lift
    pub pool : lift.pool ≡ s.pool
    pub ended : lift.result ≡ result

  -- a read for this role that went well may end
  pub record MayEndRead (s : History) (seat : Seat) (lift : LiftView B) (r : Role) : Type 0 where
    pub well : MayEnd s seat lift true Good
    pub role : IsReadAs s.past lift.start r
