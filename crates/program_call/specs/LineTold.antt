-- What is said of a faulty command line. Source: this project's own.
use Rattle.std.specs.Prelude.{ℕ, List, None, Some, IfSome, drop}
use Rattle.std.specs.declared.option.Option.{Option}
use Rattle.command_messages.specs.LineFaults.{HoldsOfWords, Quotes}
use Rattle.command_messages.specs.declared.faults.LineFault.{LineFault}

-- something is said, and it holds of the words after the program's own name, if all words are known; of the first
-- of them these are the first bytes, where they are quoted
abbrev pub IsLineTold : Option (List (List ℕ)) → Option LineFault → List ℕ → Type 0
IsLineTold known None kept = ⊥
IsLineTold known (Some fault) kept = IfSome known (λ all. HoldsOfWords (drop 1 all) fault × Quotes (drop 1 all) fault kept)
