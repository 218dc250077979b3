-- Digits, one more at a time.
use Rattle.std.proofs.Common.{◌≡◌, ℕ, zero, suc, ◌+◌, ◌/◌, ◌%◌, [], ◌∷◌, ◌++◌, length, refl, arith, length-append, add-one}
use Rattle.vm_text.specs.Hex.{hex, hex_digit}

pub length-hex : (places value : ℕ) → length (hex places value) ≡ places
unfolding hex
length-hex zero value = refl
length-hex (suc places) value =
    omega (arith, length-append (hex places (value / 16)) (hex_digit (value % 16) ∷ []), length-hex places (value / 16))

pub hex-one_more : (places value : ℕ) → hex (places + 1) value ≡ hex places (value / 16) ++ hex_digit (value % 16) ∷ []
unfolding hex
hex-one_more places value = rw add-one refl
