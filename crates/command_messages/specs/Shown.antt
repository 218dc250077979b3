-- How bytes of an input or a word are shown in a message. Source: this project's own.
use Rattle.std.specs.Prelude.{ℕ, ◌==◌, Bool, ◌&&◌, nat_le, if◌then◌else◌, List, [], ◌∷◌}
use Rattle.vm_text.specs.Hex.{hex}

abbrev pub is_printable : ℕ → Bool
is_printable byte = nat_le 32 byte && nat_le byte 126

-- a tab as a blank, a byte 13 as nothing, and another byte that isn't printable as \x and its two digits
abbrev pub shown : ℕ → List ℕ
shown byte =
    if is_printable byte then byte ∷ [] else
    if byte == 9 then 32 ∷ [] else
    if byte == 13 then [] else 92 ∷ 120 ∷ hex 2 byte
