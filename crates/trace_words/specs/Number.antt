-- Numbers in a trace: decimal ones of one to ten digits below 2^32, hexadecimal ones of one to eight
-- digits in either case. Source: this project's own.
use Rattle.std.specs.Prelude.{◌≡◌, ◌⊎◌, ◌<◌, ℕ, ◌+◌, ◌-◌, ◌*◌, Bool, ◌&&◌, nat_le, nat_lt, List, [], ◌∷◌, length, Result, Ok, Err, if◌then◌else◌}
use Rattle.trace_words.specs.declared.cause.Cause.{Cause}
use Rattle.trace_words.specs.declared.cause.Cause.TheVariants.{BadNumber, OutOfRange}
use Rattle.trace_words.specs.Judged.{◌>>=◌, owed}

-- 0 to 9
abbrev pub decimal_digit : ℕ → Result ℕ Cause
decimal_digit b = owed (nat_le 48 b && nat_le b 57) BadNumber (Ok (b - 48))

-- 0 to 9, A to F, a to f
abbrev pub hexadecimal_digit : ℕ → Result ℕ Cause
hexadecimal_digit b =
    if nat_le 48 b && nat_le b 57 then Ok (b - 48)
    else if nat_le 65 b && nat_le b 70 then Ok (b - 55)
    else if nat_le 97 b && nat_le b 102 then Ok (b - 87)
    else Err BadNumber

-- a digit's value, or 128 for a byte that is no digit
abbrev pub IsDigitOrNone : ℕ → ℕ → Type 0
IsDigitOrNone b d = ((d < 16) × (hexadecimal_digit b ≡ Ok d)) ⊎ ((d ≡ 128) × (hexadecimal_digit b ≡ Err BadNumber))

-- what the digits spell behind digits of this value
abbrev pub spelled : (ℕ → Result ℕ Cause) → ℕ → ℕ → List ℕ → Result ℕ Cause
spelled digit base before [] = Ok before
spelled digit base before (b ∷ bytes) = digit b >>= λ d. spelled digit base (base * before + d) bytes

-- a word of one to so many bytes
abbrev pub has_length : ℕ → List ℕ → Bool
has_length most word = nat_le 1 (length word) && nat_le (length word) most

-- one to ten digits, below 2^32
abbrev pub decimal : List ℕ → Result ℕ Cause
decimal word = owed (has_length 10 word) BadNumber
    (spelled decimal_digit 10 0 word >>= λ n. owed (nat_lt n 4294967296) OutOfRange (Ok n))

-- the number, if it is in the range
abbrev pub within : ℕ → ℕ → ℕ → Result ℕ Cause
within low high n = owed (nat_le low n && nat_le n high) OutOfRange (Ok n)

-- a decimal number in the range
abbrev pub decimal_within : ℕ → ℕ → List ℕ → Result ℕ Cause
decimal_within low high word = decimal word >>= within low high

-- one to eight digits
abbrev pub hexadecimal : List ℕ → Result ℕ Cause
hexadecimal word = owed (has_length 8 word) BadNumber (spelled hexadecimal_digit 16 0 word)
