-- What a step does to a place in the rundown. This project's own.
use Rattle.std.specs.Prelude.{◌≡◌, Bool, true, false, Option, Some, None}
use Rattle.log_laws.specs.Underway.{Underway}

-- the entry leads to the new place, or it can't come next, and the place is as it was
abbrev pub IsStep : Option Underway → Underway → Underway → Bool → Type 0
IsStep leads old new true = leads ≡ Some new
IsStep leads old new false = (leads ≡ None) × (new ≡ old)
