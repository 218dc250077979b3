-- Laws about the meaning of a text. Source: this project's own.
use Rattle.std.specs.Prelude.{◌≡◌, ℕ, false, List, ◌++◌}
use Rattle.vm_types.specs.Configuration.{IsWellFormed}
use Rattle.vm_types.specs.declared.config.Config.{Config}
use Rattle.trace_lines.specs.declared.breach.Breach.{Breach}
use Rattle.trace_reader.specs.Meaning.{Configuration, Faulty, trace_of, shows_no_fault}

-- a configuration that a text stands for is well formed
abbrev pub ReadIsWellFormed : Type 0
ReadIsWellFormed = (text : List ℕ) (config : Config) → trace_of text ≡ Configuration config → IsWellFormed config

-- the text has a first faulty line
abbrev pub IsFaulty : List ℕ → Type 0
IsFaulty text = (n : ℕ) × ((breach : Breach) × (trace_of text ≡ Faulty n breach))

-- once a text shows a fault it has one, and whatever follows leaves it as it is
abbrev pub FaultStays : Type 0
FaultStays = (text more : List ℕ) → shows_no_fault text ≡ false → IsFaulty text × (trace_of (text ++ more) ≡ trace_of text)
