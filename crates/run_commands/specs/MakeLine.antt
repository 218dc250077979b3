-- The words that ask for a made trace. Source: this project's own.
use Rattle.std.specs.Prelude.{◌≡◌, ℕ, ◌≤◌, List, [], ◌∷◌, Option, Some, codes}
use Rattle.vm_types.specs.declared.limits.TheConstants.{MOST_PROCESSES, MOST_REQUESTS}
use Rattle.trace_words.specs.Number.{decimal_within}
use Rattle.command_options.specs.Numbers.{if_right}
use Rattle.command_options.specs.Options.{HasOptions}
use Rattle.run_commands.specs.declared.make.Make.{Make}

-- one to ten digits, in the range
abbrev pub if_number : ℕ → ℕ → List ℕ → Option ℕ
if_number low high word = if_right (decimal_within low high word)

-- the three numbers, which name the made trace
abbrev pub AreNumbers : List (List ℕ) → Make → Type 0
AreNumbers (seed ∷ procs ∷ refs ∷ []) make =
    (if_number 0 4294967295 seed ≡ Some make.seed) × (if_number 1 MOST_PROCESSES procs ≡ Some make.procs) × (if_number 1 MOST_REQUESTS refs ≡ Some make.refs)
AreNumbers other make = ⊥

-- the three options in any order, with these values
pub record AsksToMake (words : List (List ℕ)) (make : Make) : Type 0 where
  pub values : List (List ℕ)
  pub options : HasOptions (codes "seed" ∷ codes "procs" ∷ codes "refs" ∷ []) values words
  pub numbers : AreNumbers values make

-- a trace that can be made
pub record IsMakeable (make : Make) : Type 0 where
  pub procs : (1 ≤ make.procs) × (make.procs ≤ MOST_PROCESSES)
  pub refs : (1 ≤ make.refs) × (make.refs ≤ MOST_REQUESTS)
