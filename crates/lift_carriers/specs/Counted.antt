-- What is counted of lifts that land. This project's own.
use Rattle.std.specs.Prelude.{Bool, true, false, not, List, [], ◌∷◌, count_by}
use Rattle.frame_store.specs.LiftView.{LiftView}
use Rattle.frame_store.specs.declared.lift.Carried.{Carried}
use Rattle.frame_store.specs.declared.lift.Carried.TheVariants.{Bad}
use Rattle.lift_carriers.specs.declared.landed.Landed.{Landed}

-- how it went
abbrev pub has_failed : Carried → Bool
has_failed (Bad before after) = true
has_failed other = false

abbrev pub lift_failed : {B : Type 0} → LiftView B → Bool
lift_failed lift = has_failed lift.result

abbrev pub first_failed : {B : Type 0} → List (LiftView B) → Bool
first_failed [] = false
first_failed (lift ∷ lifts) = lift_failed lift

abbrev pub counted : {B : Type 0} → List (LiftView B) → Landed
counted {B} lifts = record { good = count_by (λ (lift : LiftView B). not (lift_failed lift)) lifts; bad = count_by lift_failed lifts; first_bad = first_failed lifts }
