-- What a seat's carrier has after a call for a reference. This project's own.
use Rattle.std.specs.Prelude.{◌≡◌, List}
use Rattle.vm_types.specs.BlockView.{BlockView, Tells}
use Rattle.vm_types.specs.declared.names.Seat.{Seat}
use Rattle.vm_journal.specs.declared.entry.What.{What}
use Rattle.lift_carriers.specs.CarrierView.{CarrierView}
use Rattle.vm_state.specs.History.{History}
use Rattle.call_begins.specs.Lifted.{HasLifts}
use Rattle.fault_core.specs.declared.next.Next.{Next}
use Rattle.fault_core.specs.declared.next.Next.TheVariants.{Carry}

module _ {B : Type 0} (seen : B → BlockView) where
  -- with Carry a carrier has the lifts of the reads that were made; with any other answer it is as before
  abbrev pub IsCarrying : Tells → History → Seat → List What → Next → CarrierView B → CarrierView B → Type 0
  IsCarrying tells s seat made Carry old new = HasLifts seen tells s seat made new
  IsCarrying tells s seat made other old new = new ≡ old
