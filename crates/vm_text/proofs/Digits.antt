-- Hexadecimal digits one to one: a digit's value from its byte, and a number from its digits.
use Rattle.std.proofs.Common.{◌≡◌, ℕ, zero, suc, ◌+◌, ◌-◌, ◌*◌, ◌/◌, ◌%◌, ◌^◌, ◌<◌, ◌≤◌, List, [], ◌∷◌, ◌++◌, length, get_or, refl, sym, ◌∙◌, ap, arith, add-one, inl, inr}
use Rattle.std.specs.Prelude.{nat_lt, if◌then◌else◌}
use Rattle.std.proofs.lemmas.Bool.{cases_lt}
use Rattle.std.proofs.lemmas.List.{append_cancel_right}
use Rattle.std.proofs.Math.ListN.{get_or-append}
use Rattle.std.proofs.Math.Seq.{get_or-append_seam}
use Rattle.std.proofs.Math.Nat.{pow-le-pow_right, pow-succ'}
use Rattle.vm_text.specs.Hex.{hex, hex_digit}
use Rattle.vm_text.proofs.HexLemmas.{length-hex, hex-one_more}

-- the letters A to F
pub letter_digit : (k : ℕ) → k < 6 → hex_digit (k + 10) ≡ 65 + k
letter_digit zero h = refl
letter_digit (suc zero) h = refl
letter_digit (suc (suc zero)) h = refl
letter_digit (suc (suc (suc zero))) h = refl
letter_digit (suc (suc (suc (suc zero)))) h = refl
letter_digit (suc (suc (suc (suc (suc zero))))) h = refl
letter_digit (suc (suc (suc (suc (suc (suc k)))))) h = absurd (omega arith)

-- the last elements and the fronts of equal lists
pub last_same : (xs ys : List ℕ) (x y : ℕ) → length xs ≡ length ys → xs ++ x ∷ [] ≡ ys ++ y ∷ [] → (x ≡ y) × (xs ≡ ys)
last_same xs ys x y long e =
    let same : x ≡ y =
    sym (get_or-append_seam xs x [] 0) ∙ ap (λ s. get_or s (length xs) 0) e
    ∙ ap (λ n. get_or (ys ++ y ∷ []) n 0) long ∙ get_or-append_seam ys y [] 0 in
    (same, append_cancel_right xs ys (y ∷ []) (ap (λ z. xs ++ z ∷ []) (sym same) ∙ e))

-- the value of a digit's byte
abbrev back : ℕ → ℕ
back byte = if nat_lt byte 65 then byte - 48 else byte - 55

-- different digits have different bytes
value_of_digit : (d : ℕ) → d < 16 → back (hex_digit d) ≡ d
value_of_digit zero h = refl
value_of_digit (suc zero) h = refl
value_of_digit (suc (suc zero)) h = refl
value_of_digit (suc (suc (suc zero))) h = refl
value_of_digit (suc (suc (suc (suc zero)))) h = refl
value_of_digit (suc (suc (suc (suc (suc zero))))) h = refl
value_of_digit (suc (suc (suc (suc (suc (suc zero)))))) h = refl
value_of_digit (suc (suc (suc (suc (suc (suc (suc zero))))))) h = refl
value_of_digit (suc (suc (suc (suc (suc (suc (suc (suc zero)))))))) h = refl
value_of_digit (suc (suc (suc (suc (suc (suc (suc (suc (suc zero))))))))) h = refl
value_of_digit (suc (suc (suc (suc (suc (suc (suc (suc (suc (suc zero)))))))))) h = refl
value_of_digit (suc (suc (suc (suc (suc (suc (suc (suc (suc (suc (suc zero))))))))))) h = refl
value_of_digit (suc (suc (suc (suc (suc (suc (suc (suc (suc (suc (suc (suc zero)))))))))))) h = refl
value_of_digit (suc (suc (suc (suc (suc (suc (suc (suc (suc (suc (suc (suc (suc zero))))))))))))) h = refl
value_of_digit (suc (suc (suc (suc (suc (suc (suc (suc (suc (suc (suc (suc (suc (suc zero)))))))))))))) h = refl
value_of_digit (suc (suc (suc (suc (suc (suc (suc (suc (suc (suc (suc (suc (suc (suc (suc zero))))))))))))))) h = refl
value_of_digit (suc (suc (suc (suc (suc (suc (suc (suc (suc (suc (suc (suc (suc (suc (suc (suc d)))))))))))))))) h = absurd (omega arith)

pub digit_same : (d e : ℕ) → d < 16 → e < 16 → hex_digit d ≡ hex_digit e → d ≡ e
digit_same d e small small' same = sym (value_of_digit d small) ∙ ap back same ∙ value_of_digit e small'

-- the digits of a number below their power
pub hex_injective : (places v w : ℕ) → v < 16 ^ places → w < 16 ^ places → hex places v ≡ hex places w → v ≡ w
unfolding hex
hex_injective zero v w h h' e = omega arith
hex_injective (suc places) v w h h' e =
    let long : length (hex places (v / 16)) ≡ length (hex places (w / 16)) = length-hex places (v / 16) ∙ sym (length-hex places (w / 16)) in
    let parts = last_same (hex places (v / 16)) (hex places (w / 16)) (hex_digit (v % 16)) (hex_digit (w % 16)) long e in
    let low : v % 16 ≡ w % 16 = digit_same (v % 16) (w % 16) (omega arith) (omega arith) parts.0 in
    let power : 16 ^ suc places ≡ 16 * 16 ^ places = pow-succ' 16 places in
    let high : v / 16 ≡ w / 16 = hex_injective places (v / 16) (w / 16) (omega arith) (omega arith) parts.1 in
    omega arith

-- each byte is a digit
pub hex_at : (places v i : ℕ) → i < places → (d : ℕ) × (d < 16) × (hex_digit d ≡ get_or (hex places v) i 0)
unfolding hex
hex_at zero v i h = absurd (omega arith)
hex_at (suc places) v i h =
    elim (cases_lt i places) [
      | inl lt ↦
          let front = hex_at places (v / 16) i lt in
          (front.0, front.1, front.2 ∙ sym (get_or-append (hex places (v / 16)) (hex_digit (v % 16) ∷ []) 0 i (omega (arith, length-hex places (v / 16)))))
      | inr ge ↦
          let last : i ≡ length (hex places (v / 16)) = omega (arith, length-hex places (v / 16)) in
          (v % 16, omega arith, sym (ap (λ n. get_or (hex places (v / 16) ++ hex_digit (v % 16) ∷ []) n 0) last ∙ get_or-append_seam (hex places (v / 16)) (hex_digit (v % 16)) [] 0))
    ]

-- one more digit behind a number's digits
pub hex_more : (places v d : ℕ) → d < 16 → hex (places + 1) (16 * v + d) ≡ hex places v ++ hex_digit d ∷ []
hex_more places v d small =
    let high : (16 * v + d) / 16 ≡ v = omega arith in
    let low : (16 * v + d) % 16 ≡ d = omega arith in
    hex-one_more places (16 * v + d) ∙ rw (high, low) refl

pub more_small : (places v d : ℕ) → v < 16 ^ places → d < 16 → 16 * v + d < 16 ^ (places + 1)
more_small places v d small digit = rw (add-one, pow-succ' 16 places) (omega arith)

pub within_8 : (places : ℕ) → places ≤ 8 → 16 ^ places ≤ 2 ^ 32
within_8 places h = pow-le-pow_right {n = 16} (omega arith) {i = places} {j = 8} h
