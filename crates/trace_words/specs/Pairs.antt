-- Bytes as pairs of hexadecimal digits. Source: this project's own.
use Rattle.std.specs.Prelude.{ℕ, ◌+◌, ◌*◌, ◌&&◌, nat_le, List, [], ◌∷◌, length, Result, Ok, Err}
use Rattle.arrayvec.specs.ArrayVec.{ArrayVec}
use Rattle.trace_words.specs.declared.cause.Cause.{Cause}
use Rattle.trace_words.specs.declared.cause.Cause.TheVariants.{BadNumber}
use Rattle.trace_words.specs.Judged.{◌>>=◌, owed}
use Rattle.trace_words.specs.Number.{hexadecimal_digit}

-- the bytes, of two digits each
abbrev pub paired : List ℕ → Result (List ℕ) Cause
paired [] = Ok []
paired (high ∷ []) = Err BadNumber
paired (high ∷ low ∷ rest) =
    hexadecimal_digit high >>= λ h. hexadecimal_digit low >>= λ l. paired rest >>= λ bytes. Ok ((16 * h + l) ∷ bytes)

-- 1 to 64 of them
abbrev pub pairs : List ℕ → Result (List ℕ) Cause
pairs word = owed (nat_le 2 (length word) && nat_le (length word) 128) BadNumber (paired word)

-- as the code holds them
abbrev pub held : Result (ArrayVec ℕ) Cause → Result (List ℕ) Cause
held (Ok bytes) = Ok bytes.items
held (Err cause) = Err cause
