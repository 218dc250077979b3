-- A number that is a value. Source: this project's own.
use Rattle.std.specs.Prelude.{ℕ, Option, Some, None, Result, Ok, Err}
use Rattle.trace_words.specs.declared.cause.Cause.{Cause}

-- the number, if the word is one
abbrev pub if_right : Result ℕ Cause → Option ℕ
if_right (Ok n) = Some n
if_right (Err cause) = None
