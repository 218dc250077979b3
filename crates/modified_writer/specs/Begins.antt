-- What a call for a write cluster makes, leaves and returns is what the modified page writer's rule gives. This
-- project's own.
use Rattle.std.specs.Prelude.{◌≡◌, List}
use Rattle.vm_types.specs.BlockView.{BlockView, Tells}
use Rattle.vm_types.specs.declared.names.Seat.{Seat}
use Rattle.vm_journal.specs.declared.entry.What.{What}
use Rattle.pager_policy.specs.Given.{Given}
use Rattle.pager_policy.specs.WriteCluster.{BeginIs, Reason as GivenReason, begin_carry, begin_nothing, reason_high, reason_need}
use Rattle.lift_carriers.specs.CarrierView.{CarrierView}
use Rattle.vm_state.specs.History.{History}
use Rattle.vm_state.specs.LiftsLand.{added_each}
use Rattle.call_begins.specs.Lifted.{HasLifts}
use Rattle.modified_writer.specs.declared.begun.Begin.{Begin}
use Rattle.modified_writer.specs.declared.begun.Begin.TheVariants.{Carry, Nothing}
use Rattle.modified_writer.specs.declared.reason.Reason.{Reason}
use Rattle.modified_writer.specs.declared.reason.Reason.TheVariants.{High, Need}

abbrev pub reason_of : Reason → GivenReason
reason_of High = reason_high
reason_of Need = reason_need

abbrev pub begin_of : BeginIs → Begin
begin_of begin_carry = Carry
begin_of begin_nothing = Nothing

module _ {B : Type 0} (seen : B → BlockView) where
  -- with Carry a carrier has the lifts of the writes that were made; with any other answer it is as before
  abbrev pub IsCarrying : Tells → History → Seat → List What → Begin → CarrierView B → CarrierView B → Type 0
  IsCarrying tells s seat made Carry old new = HasLifts seen tells s seat made new
  IsCarrying tells s seat made other old new = new ≡ old

  -- what a call leaves of the history and of the seat's carrier, and what it returns
  pub record Begins (tells : Tells) (before after : History) (seat : Seat) (g : Given BeginIs) (begin : Begin) (old new : CarrierView B) : Type 0 where
    pub history : after ≡ added_each seat g.made before
    pub answer : begin ≡ begin_of g.answer
    pub carrier : IsCarrying tells after seat g.made begin old new
