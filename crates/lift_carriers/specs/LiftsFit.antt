-- A lift as the pager's rules see it, and that it fits the journal. This project's own.
use Rattle.std.specs.Prelude.{List}
use Rattle.vm_types.specs.BlockView.{BlockView, Tells}
use Rattle.vm_types.specs.declared.config.Config.{Config}
use Rattle.vm_journal.specs.declared.entry.Entry.{Entry}
use Rattle.pager_model.specs.Fits.{FitsLift, Lift, Result, lift_of, waiting, good, bad}
use Rattle.pager_model.specs.Run.{pager_after}
use Rattle.frame_store.specs.LiftView.{LiftView}
use Rattle.frame_store.specs.declared.lift.Carried.{Carried}
use Rattle.frame_store.specs.declared.lift.Carried.TheVariants.{Waiting, Good, Bad}

abbrev pub result_of : Carried → Result
result_of Waiting = waiting
result_of Good = good
result_of (Bad before after) = bad before after

module _ {B : Type 0} (seen : B → BlockView) where
  abbrev pub lift_seen : LiftView B → Lift
  lift_seen lift =
      lift_of seen
      (record { start = lift.start; page = lift.page; frame = lift.frame; block = lift.block; is_read = lift.is_read; buffer = lift.buffer; held = lift.held; result = result_of lift.result })

  abbrev pub LiftFits : Tells → Config → List Entry → LiftView B → Type 0
  LiftFits tells config past lift = FitsLift tells.content tells.plan config past (pager_after config past) (lift_seen lift)
