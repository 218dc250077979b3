-- The names of processes: one capital letter, A for number 0. Source: this project's own.
use Rattle.std.specs.Prelude.{ℕ, ◌-◌, List, [], ◌∷◌, Result, Ok, Err}
use Rattle.trace_words.specs.declared.cause.Cause.{Cause}
use Rattle.trace_words.specs.declared.cause.Cause.TheVariants.{UnknownWord}
use Rattle.trace_words.specs.Judged.{owed}
use Rattle.trace_words.specs.Name.{is_capital}

abbrev pub letter : List ℕ → Result ℕ Cause
letter (b ∷ []) = owed (is_capital b) UnknownWord (Ok (b - 65))
letter other = Err UnknownWord
