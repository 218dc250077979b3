-- A transfer that was begun and is carried outside the memory lock stays right, whatever legal step any seat makes
-- meanwhile but its own landing: the flight stays open, its frame keeps its page, the bytes that it moves stay
-- those that are meant, and nothing more is counted of its block. This project's own.
use Rattle.std.specs.Prelude.{◌≡◌, Bool, false, List, ◌∷◌, Some}
use Rattle.vm_types.specs.Configuration.{IsWellFormed}
use Rattle.vm_types.specs.declared.names.Page.{Page}
use Rattle.vm_types.specs.declared.config.Config.{Config}
use Rattle.vm_journal.specs.declared.entry.Entry.{Entry}
use Rattle.pager_model.specs.Fits.{FitsLift, Lift, flight_view, lands}
use Rattle.pager_model.specs.Flights.{Flight}
use Rattle.pager_model.specs.Pager.{Pager}
use Rattle.pager_model.specs.Run.{pager_after, IsRun}
use Rattle.pager_model.specs.Step.{after}

-- an entry leaves an open flight as it was
abbrev pub LeavesFlight : Config → List Entry → Pager → Entry → Flight → Type 0
LeavesFlight config past a e x = (g : Page) → a.page x.frame ≡ Some g → flight_view config (e ∷ past) (after config past a e) x g ≡ flight_view config past a x g

-- a lift that fits a run still fits it after any legal step that doesn't land its flight
abbrev pub LiftsStay : Type 0
LiftsStay =
    (tells tells_plan : Bool) (config : Config) (past : List Entry) (e : Entry) (lift : Lift) → IsWellFormed config → IsRun config (e ∷ past)
    → lands lift.start e.what ≡ false → FitsLift tells tells_plan config past (pager_after config past) lift → FitsLift tells tells_plan config (e ∷ past) (pager_after config (e ∷ past)) lift
