-- What the write of a whole text does to a sink, by its answer. Source: this project's own.
use Rattle.std.specs.Prelude.{◌≡◌, ℕ, ◌<◌, List, length, take, Option, Result, Ok, Err}
use Rattle.std.specs.Io.KnownBytes.{Appends}
use Rattle.vm_types.specs.Counts.{raised, Rose}
use Rattle.outside_io.specs.declared.whole.WriteFault.{WriteFault}
use Rattle.outside_io.specs.declared.whole.WriteFault.TheVariants.{Failed, NoneTaken}

-- after `Ok` the whole text was taken, after a fault a shorter prefix of it, where the bytes taken are known
abbrev pub TakesText : {T : Type 0} → Option (List ℕ) → Option (List ℕ) → Result T WriteFault → List ℕ → Type 0
TakesText old new (Ok done) text = Appends old new text
TakesText old new (Err fault) text = (n : ℕ) × (n < length text) × Appends old new (take n text)

-- the count of faults rose at `Failed`, and is else unchanged
abbrev pub FaultsByWrite : {T : Type 0} → ℕ → ℕ → Result T WriteFault → Type 0
FaultsByWrite before now (Ok done) = now ≡ before
FaultsByWrite before now (Err Failed) = Rose before now
FaultsByWrite before now (Err NoneTaken) = now ≡ before

-- the count of stalls rose by one at `NoneTaken`, and is else unchanged
abbrev pub stalls_by : {T : Type 0} → ℕ → Result T WriteFault → ℕ
stalls_by before (Ok done) = before
stalls_by before (Err Failed) = before
stalls_by before (Err NoneTaken) = raised before
