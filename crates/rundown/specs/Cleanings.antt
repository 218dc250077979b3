-- Where the code of the rundown is, in the words of its table. This project's own.
use Rattle.pager_policy.specs.Cleaning.{Cleaning as CleaningIs, evicting, rounds}
use Rattle.pager_policy.specs.Moves.{Control as ControlIs, cleaning, control}
use Rattle.rundown.specs.declared.cleaning.Cleaning.{Cleaning}
use Rattle.rundown.specs.declared.cleaning.Cleaning.TheVariants.{Evicting, Rounds}

abbrev pub cleaning_in : Cleaning → CleaningIs
cleaning_in (Evicting p n failed) = evicting p.0 n failed
cleaning_in (Rounds following left) = rounds following left

abbrev pub control_at : Cleaning → ControlIs
control_at c = control (cleaning (cleaning_in c))
