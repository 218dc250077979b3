-- Printed numbers are read as those numbers.
use Rattle.std.proofs.Common.{◌≡◌, ℕ, zero, suc, ◌+◌, ◌-◌, ◌*◌, ◌/◌, ◌%◌, ◌^◌, ◌<◌, ◌≤◌, Bool, true, leb, List, [], ◌∷◌, ◌++◌, length, Result, Ok, Err, refl, sym, ap, ◌∙◌, arith, lit<, lit≤, le-leb, lt-ltb}
use Rattle.std.specs.Prelude.{decimal as printed}
use Rattle.std.specs.Char.{digit_value}
use Rattle.std.specs.Str.Parse.{AllDigits, digits_value_after}
use Rattle.std.proofs.lemmas.Bool.{and_from}
use Rattle.std.proofs.lemmas.Fmt.{length-decimal-le, decimal_is_IsNumeral}
use Rattle.std.proofs.lemmas.Str.{digit_value_digit}
use Rattle.std.proofs.lemmas.Str.Parse.{digit_from_value}
use Rattle.std.proofs.Math.Nat.{pow-succ'}
use Rattle.vm_text.specs.Hex.{hex, hex_digit}
use Rattle.vm_text.proofs.HexLemmas.{length-hex}
use Rattle.trace_words.specs.declared.cause.Cause.{Cause}
use Rattle.trace_words.specs.Judged.{owed}
use Rattle.trace_words.specs.Number.{decimal_digit, hexadecimal_digit, spelled, has_length, decimal, decimal_within, hexadecimal}

-- a test that holds lets the value pass
pub owed_passes : {A E : Type 0} (test : Bool) (wrong : E) (value : Result A E) → test ≡ true → owed test wrong value ≡ value
owed_passes test wrong value e = rw e refl

-- decimal digits

pub decimal_digit_read : (c : ℕ) → digit_value c < 10 → decimal_digit c ≡ Ok (c - 48)
decimal_digit_read c h = let k = digit_from_value c h in rw (le-leb 48 c k.0, le-leb c 57 k.1) refl

spelled_digits : (before : ℕ) (ds : List ℕ) → AllDigits 10 ds → spelled decimal_digit 10 before ds ≡ Ok (digits_value_after 10 before ds)
spelled_digits before [] h = refl
spelled_digits before (c ∷ cs) h =
    let here : spelled decimal_digit 10 before (c ∷ cs) ≡ spelled decimal_digit 10 (10 * before + (c - 48)) cs = rw (decimal_digit_read c h.0) refl in
    let e : 10 * before + (c - 48) ≡ before * 10 + digit_value c = omega (arith, digit_value_digit c (digit_from_value c h.0)) in
    here ∙ ap (λ (m : ℕ). spelled decimal_digit 10 m cs) e ∙ spelled_digits (before * 10 + digit_value c) cs h.1

pub printed_some : (n : ℕ) → n < 2 ^ 32 → 1 ≤ length (printed n)
printed_some n small = let k = (decimal_is_IsNumeral n (omega arith)).0.0 in omega (arith, k)

pub printed_few : (n : ℕ) → n < 2 ^ 32 → length (printed n) ≤ 10
printed_few n small = length-decimal-le 10 n (lit< tt) (omega (arith, lit≤ {m = 2 ^ 32} {n = 10 ^ 10} tt)) (omega arith)

pub number_read : (n : ℕ) → n < 2 ^ 32 → decimal (printed n) ≡ Ok n
number_read n small =
    let k = decimal_is_IsNumeral n (omega arith) in
    let size : has_length 10 (printed n) ≡ true = and_from (leb 1 (length (printed n))) (leb (length (printed n)) 10) (le-leb 1 (length (printed n)) (printed_some n small)) (le-leb (length (printed n)) 10 (printed_few n small)) in
    let value : spelled decimal_digit 10 0 (printed n) ≡ Ok n = spelled_digits 0 (printed n) k.0.1 ∙ ap (λ (m : ℕ). Ok m) k.1 in
    rw (size, value, lt-ltb n 4294967296 (omega arith)) refl

pub within_read : (low high n : ℕ) → low ≤ n → n ≤ high → high < 2 ^ 32 → decimal_within low high (printed n) ≡ Ok n
within_read low high n above below small = rw (number_read n (omega arith), le-leb low n above, le-leb n high below) refl

-- hexadecimal digits

pub hex_digit_read : (d : ℕ) → d < 16 → hexadecimal_digit (hex_digit d) ≡ Ok d
hex_digit_read zero h = refl
hex_digit_read (suc zero) h = refl
hex_digit_read (suc (suc zero)) h = refl
hex_digit_read (suc (suc (suc zero))) h = refl
hex_digit_read (suc (suc (suc (suc zero)))) h = refl
hex_digit_read (suc (suc (suc (suc (suc zero))))) h = refl
hex_digit_read (suc (suc (suc (suc (suc (suc zero)))))) h = refl
hex_digit_read (suc (suc (suc (suc (suc (suc (suc zero))))))) h = refl
hex_digit_read (suc (suc (suc (suc (suc (suc (suc (suc zero)))))))) h = refl
hex_digit_read (suc (suc (suc (suc (suc (suc (suc (suc (suc zero))))))))) h = refl
hex_digit_read (suc (suc (suc (suc (suc (suc (suc (suc (suc (suc zero)))))))))) h = refl
hex_digit_read (suc (suc (suc (suc (suc (suc (suc (suc (suc (suc (suc zero))))))))))) h = refl
hex_digit_read (suc (suc (suc (suc (suc (suc (suc (suc (suc (suc (suc (suc zero)))))))))))) h = refl
hex_digit_read (suc (suc (suc (suc (suc (suc (suc (suc (suc (suc (suc (suc (suc zero))))))))))))) h = refl
hex_digit_read (suc (suc (suc (suc (suc (suc (suc (suc (suc (suc (suc (suc (suc (suc zero)))))))))))))) h = refl
hex_digit_read (suc (suc (suc (suc (suc (suc (suc (suc (suc (suc (suc (suc (suc (suc (suc zero))))))))))))))) h = refl
hex_digit_read (suc (suc (suc (suc (suc (suc (suc (suc (suc (suc (suc (suc (suc (suc (suc (suc d)))))))))))))))) h = absurd (omega arith)

-- digits behind digits

push_behind : (digit : ℕ → Result ℕ Cause) (base before x : ℕ) (xs : List ℕ) (y v d : ℕ)
    → ((a : ℕ) → spelled digit base (base * before + a) xs ≡ Ok v → spelled digit base (base * before + a) (xs ++ y ∷ []) ≡ Ok (base * v + d))
    → (r : Result ℕ Cause) → digit x ≡ r → spelled digit base before (x ∷ xs) ≡ Ok v → spelled digit base before ((x ∷ xs) ++ y ∷ []) ≡ Ok (base * v + d)
push_behind digit base before x xs y v d rest (Err cause) is e =
    let none : spelled digit base before (x ∷ xs) ≡ Err cause = rw is refl in
    absurd (differ v cause (sym e ∙ none)) where
      differ : (v : ℕ) (cause : Cause) → Ok v ≡ Err cause → ⊥
      differ v cause e = cc
push_behind digit base before x xs y v d rest (Ok a) is e =
    let behind : spelled digit base (base * before + a) xs ≡ Ok v = rw is at e in
    let here : spelled digit base before ((x ∷ xs) ++ y ∷ []) ≡ spelled digit base (base * before + a) (xs ++ y ∷ []) = rw is refl in
    here ∙ rest a behind

spelled_push : (digit : ℕ → Result ℕ Cause) (base before : ℕ) (xs : List ℕ) (y v d : ℕ) → spelled digit base before xs ≡ Ok v → digit y ≡ Ok d
    → spelled digit base before (xs ++ y ∷ []) ≡ Ok (base * v + d)
spelled_push digit base before [] y v d e f = let same : before ≡ v = cc in rw (f, same) refl
spelled_push digit base before (x ∷ xs) y v d e f =
    push_behind digit base before x xs y v d (λ a h. spelled_push digit base (base * before + a) xs y v d h f) (digit x) refl e

pub spelled_hex : (places value : ℕ) → value < 16 ^ places → spelled hexadecimal_digit 16 0 (hex places value) ≡ Ok value
unfolding hex
spelled_hex zero value small = let none : 0 ≡ value = omega arith in ap (λ (n : ℕ). Ok n) none
spelled_hex (suc places) value small =
    let power : 16 ^ suc places ≡ 16 * 16 ^ places = pow-succ' 16 places in
    let front = spelled_hex places (value / 16) (omega arith) in
    let whole : 16 * (value / 16) + value % 16 ≡ value = omega arith in
    spelled_push hexadecimal_digit 16 0 (hex places (value / 16)) (hex_digit (value % 16)) (value / 16) (value % 16) front (hex_digit_read (value % 16) (omega arith))
    ∙ ap (λ (n : ℕ). Ok n) whole

pub hexadecimal_read : (places value : ℕ) → 1 ≤ places → places ≤ 8 → value < 16 ^ places → hexadecimal (hex places value) ≡ Ok value
hexadecimal_read places value some few small =
    let long = length-hex places value in
    let size : has_length 8 (hex places value) ≡ true = and_from (leb 1 (length (hex places value))) (leb (length (hex places value)) 8) (le-leb 1 (length (hex places value)) (omega arith)) (le-leb (length (hex places value)) 8 (omega arith)) in
    rw (size, spelled_hex places value small) refl
