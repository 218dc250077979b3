-- The lifts of a carrier fit the journal. This project's own.
use Rattle.std.specs.List.{AllByRecursion}
use Rattle.vm_types.specs.BlockView.{BlockView, Tells}
use Rattle.lift_carriers.specs.CarrierView.{CarrierView}
use Rattle.vm_state.specs.History.{History}
use Rattle.lift_carriers.specs.LiftsFit.{LiftFits}

-- the lifts of a carrier fit the journal
abbrev pub LiftsFit : {B : Type 0} → (B → BlockView) → Tells → History → CarrierView B → Type 0
LiftsFit seen tells s c = AllByRecursion (LiftFits seen tells s.config s.past) c.lifts
