-- Which word of a line breaks a rule, and the bound that is at play. Source: this project's own.
use Rattle.std.specs.Prelude.{ℕ, ◌+◌, min, length, List, Result, Ok, Err}
use Rattle.trace_words.specs.declared.cause.Cause.{Cause}
use Rattle.trace_words.specs.declared.cause.Cause.TheVariants.{Misplaced}
use Rattle.trace_words.specs.Number.{decimal, decimal_within}
use Rattle.trace_lines.specs.declared.breach.Bound.{Bound}
use Rattle.trace_lines.specs.declared.breach.Bound.TheVariants.{Free, Within}
use Rattle.trace_lines.specs.declared.breach.Breach.{Breach}

-- the word of this number breaks the rule, and this may stand in its place
abbrev pub bounded : ℕ → Cause → Bound → Breach
bounded word cause bound = record { cause = cause; word = word; bound = bound }

-- the word of this number breaks the rule
abbrev pub at_word : ℕ → Cause → Breach
at_word word cause = bounded word cause Free

-- what the word of this number says, with this in its place, or that it is wrong
abbrev pub marked : {A : Type 0} → ℕ → Bound → Result A Cause → Result A Breach
marked word bound (Ok x) = Ok x
marked word bound (Err cause) = Err (bounded word cause bound)

-- a decimal number in the range, the word of this number
abbrev pub ranged : ℕ → ℕ → ℕ → List ℕ → Result ℕ Breach
ranged word low high text = marked word (Within low high) (decimal_within low high text)

-- a decimal number, which is below 2^32, the word of this number
abbrev pub counted : ℕ → List ℕ → Result ℕ Breach
counted word text = marked word (Within 0 4294967295) (decimal text)

-- other than so many words stand from this place on: the first that is too many, or the place of the first
-- that is missing
abbrev pub miscounted : ℕ → ℕ → List (List ℕ) → Breach
miscounted first wanted args = at_word (first + min (length args) wanted) Misplaced
