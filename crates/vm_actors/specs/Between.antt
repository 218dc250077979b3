-- What is open of the numbers of a pass between its turns. A past is a journal's list of entries, the newest first.
-- This project's own.
use Rattle.std.specs.Prelude.{◌≡◌, ℕ, Bool, false, true, List, [], Contains, Option, Some, None, nat_eq, reverse}
use Rattle.vm_types.specs.BlockView.{BlockView, Tells}
use Rattle.vm_types.specs.declared.names.Seat.{Seat}
use Rattle.vm_journal.specs.declared.entry.Entry.{Entry}
use Rattle.pager_model.specs.Flights.{awaits_reuse, carrier_of}
use Rattle.pager_model.specs.Run.{IsRun}
use Rattle.pager_model.specs.Spoken.{IsRight}
use Rattle.lift_carriers.specs.CarrierView.{CarrierView}
use Rattle.vm_state.specs.declared.base.StateBase.{StateBase}
use Rattle.carried_landings.specs.Outside.{AreOut, NoneWaits}

-- of these numbers no transfer is open after a journal
abbrev pub NoneOpen : List ℕ → List Entry → Type 0
NoneOpen numbers journal = (k : ℕ) → Contains numbers k → carrier_of k (reverse journal) ≡ []

-- of the numbers but for this one
abbrev pub NoOtherOpen : List ℕ → ℕ → List Entry → Type 0
NoOtherOpen numbers p past = (k : ℕ) → Contains numbers k → nat_eq p k ≡ false → carrier_of k past ≡ []

-- no reuse is due after a journal
abbrev pub IsCalm : List Entry → Type 0
IsCalm journal = awaits_reuse (reverse journal) ≡ false

-- a journal of such a state is a run, and the values that it shows are right where the bytes of blocks are known
abbrev pub IsJournalOf : Bool → Option StateBase → List Entry → Type 0
IsJournalOf tells None journal = ⊥
IsJournalOf tells (Some b) journal = IsRun b.config (reverse journal) × (tells ≡ true → IsRight b.config (reverse journal))

module _ {B : Type 0} (seen : B → BlockView) (tells : Tells) where
  -- the carrier has the lifts of all open transfers of the seat, which were carried
  pub record HasCarriedAll (b : StateBase) (past : List Entry) (seat : Seat) (c : CarrierView B) : Type 0 where
    pub out : AreOut seen tells b past seat c
    pub carried : NoneWaits c.lifts

  -- a pass that knows no base stands nowhere
  abbrev pub IsBetweenTurns : Option StateBase → List Entry → Seat → CarrierView B → Type 0
  IsBetweenTurns None past seat c = ⊥
  IsBetweenTurns (Some b) past seat c = HasCarriedAll b past seat c
