-- The names of sections. Source: this project's own.
use Rattle.std.specs.Prelude.{ℕ, Bool, ◌==◌, ◌&&◌, ◌||◌, nat_le, List, length, slice_index}
use Rattle.std.specs.List.{list_all}

-- A to Z
abbrev pub is_capital : ℕ → Bool
is_capital b = nat_le 65 b && nat_le b 90

-- A to Z, 0 to 9 and _
abbrev pub is_name_byte : ℕ → Bool
is_name_byte b = is_capital b || (nat_le 48 b && nat_le b 57) || (b == 95)

-- 2 to 15 such bytes, a letter first
abbrev pub is_name : List ℕ → Bool
is_name word = nat_le 2 (length word) && nat_le (length word) 15 && is_capital (slice_index word 0) && list_all is_name_byte word
