-- The names of the protection codes in a trace, which are those in a log. Source: this project's own.
use Rattle.std.specs.Prelude.{ℕ, nat_lt, List, length, Option, None, Result, if◌then◌else◌}
use Rattle.std.specs.List.{position}
use Rattle.std.specs.Option.{ok_or}
use Rattle.vm_text.specs.Services.{protection_names}
use Rattle.trace_words.specs.declared.cause.Cause.{Cause}
use Rattle.trace_words.specs.declared.cause.Cause.TheVariants.{UnknownWord}
use Rattle.trace_words.specs.Words.{is}

-- the code of this name, if there is one; nothing is named by no bytes, as the reserved code 1 has no name
abbrev pub code_named : List ℕ → Option ℕ
code_named word = if nat_lt 0 (length word) then position (λ name. is word name) protection_names else None

abbrev pub protection : List ℕ → Result ℕ Cause
protection word = ok_or (code_named word) UnknownWord
