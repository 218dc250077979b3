-- A lift that fits a run still fits it after any legal step that doesn't land its flight.
use Rattle.std.proofs.Common.{◌≡◌, ℕ, Bool, false, List, ◌∷◌, sym, subst}
use Rattle.vm_types.specs.Configuration.{IsWellFormed}
use Rattle.vm_types.specs.declared.config.Config.{Config}
use Rattle.vm_journal.specs.declared.entry.Entry.{Entry}
use Rattle.pager_model.specs.Fits.{FitsLift, Lift, lands}
use Rattle.pager_model.specs.Run.{pager_after, IsRun}
use Rattle.pager_laws.proofs.FlatFollows.{follows}
use Rattle.pager_laws.proofs.RunsAreSound.{run_kept}
use Rattle.content_laws.proofs.FlightLeft.{fits_left}
use Rattle.content_laws.proofs.StepLeaves.{step_leaves}

pub lifts_stay : (tells tells_plan : Bool) (config : Config) (past : List Entry) (e : Entry) (lift : Lift) → IsWellFormed config → IsRun config (e ∷ past)
    → lands lift.start e.what ≡ false → FitsLift tells tells_plan config past (pager_after config past) lift → FitsLift tells tells_plan config (e ∷ past) (pager_after config (e ∷ past)) lift
lifts_stay tells tells_plan config past e lift formed run other fits =
    let x = fits.0 in
    let start = ((fits.1).flight).start in
    fits_left tells tells_plan config past (pager_after config past) e lift fits
    (step_leaves config past (pager_after config past) x (fits.1).found_x e (run_kept config past formed run.0) (follows config past formed run.0).map run.1
    (subst (λ (k : ℕ). lands k e.what ≡ false) (sym start) other))
