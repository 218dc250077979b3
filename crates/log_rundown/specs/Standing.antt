-- Where a log stands in the rundown, as one of the model's values. This project's own.
use Rattle.pager_policy.specs.Cleaning.{Cleaning as CleaningIs, evicting, rounds}
use Rattle.log_laws.specs.Underway.{Onward as OnwardIs, Underway as UnderwayIs, between_moves, in_landings, in_outs}
use Rattle.log_rundown.specs.declared.cleaning.Cleaning.{Cleaning}
use Rattle.log_rundown.specs.declared.cleaning.Cleaning.TheVariants.{Evicting, Rounds}
use Rattle.log_rundown.specs.declared.onward.Onward.{Onward}
use Rattle.log_rundown.specs.declared.standing.Standing.{Standing}
use Rattle.log_rundown.specs.declared.standing.Standing.TheVariants.{BetweenMoves, InLandings, InOuts}
use Rattle.log_rundown.specs.Written.{writes_as}

abbrev pub cleaning_as : Cleaning → CleaningIs
cleaning_as (Evicting p n failed) = evicting p.0 n failed
cleaning_as (Rounds following left) = rounds following left

abbrev pub onward_as : Onward → OnwardIs
onward_as o = record { failed = cleaning_as o.failed; written = cleaning_as o.written }

abbrev pub standing_as : Standing → UnderwayIs
standing_as (BetweenMoves at) = between_moves (cleaning_as at)
standing_as (InOuts writes onward) = in_outs (writes_as writes.items) (onward_as onward)
standing_as (InLandings flights all onward) = in_landings flights.items all (onward_as onward)
