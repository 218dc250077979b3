-- Numbers in hexadecimal digits. Source: this project's own.
use Rattle.std.specs.Prelude.{ℕ, zero, suc, ◌/◌, ◌%◌, List, [], ◌∷◌, ◌++◌, slice_index, codes}

-- a digit, in capitals
abbrev pub hex_digit : ℕ → ℕ
hex_digit value = slice_index (codes "0123456789ABCDEF") value

-- the last so many digits of a number, the most significant first
unfoldable pub hex : ℕ → ℕ → List ℕ
hex zero value = []
hex (suc places) value = hex places (value / 16) ++ hex_digit (value % 16) ∷ []
