-- The tables of two digits, and numbers written two digits at a time.
use Rattle.std.proofs.Common.{◌≡◌, ℕ, zero, suc, ◌+◌, ◌-◌, ◌*◌, ◌/◌, ◌%◌, ◌^◌, ◌<◌, ◌≤◌, Bool, true, ◌&&◌, T, eqb, List, [], ◌∷◌, ◌++◌, get_or, refl, sym, inl, inr, arith, eq-zero-or-pos, eqb→eq, append_assoc, append-nil}
use Rattle.std.proofs.Math.Nat.{div-div-eq-div-mul}
use Rattle.std.proofs.lemmas.Nat.{pow-add}
use lib.Ieee.Fits.{and_l, and_r}
use Rattle.std.specs.Fmt.{decimal}
use Rattle.std.proofs.lemmas.Fmt.{decimal_digit}
use Rattle.itoa.proofs.Decimal.{decimal_two, decimal_pair, decimal_four}
use Rattle.vm_text.specs.Hex.{hex, hex_digit}
use Rattle.vm_text.specs.declared.number.TheConstants.{DECIMAL_PAIRS, HEX_PAIRS}
use Rattle.vm_text.proofs.HexLemmas.{hex-one_more}

-- whether a table has these two digits for each of the first so many numbers
abbrev are_pairs : List ℕ → (ℕ → ℕ) → (ℕ → ℕ) → ℕ → Bool
are_pairs table front back zero = true
are_pairs table front back (suc p) = (eqb (get_or table (2 * p) 0) (front p) && eqb (get_or table (2 * p + 1) 0) (back p)) && are_pairs table front back p

pair_at : (table : List ℕ) (front back : ℕ → ℕ) (n p : ℕ) → T (are_pairs table front back n) → p < n
    → (get_or table (2 * p) 0 ≡ front p) × (get_or table (2 * p + 1) 0 ≡ back p)
pair_at table front back zero p t h = absurd (omega arith)
pair_at table front back (suc n) p t h =
    elim (eq-zero-or-pos (n - p)) [
      | inl z ↦
          let e : p ≡ n = omega arith in
          let a = and_l _ (are_pairs table front back n) t in
          rw e (eqb→eq _ _ (and_l _ _ a), eqb→eq _ _ (and_r _ _ a))
      | inr g ↦ pair_at table front back n p (and_r _ (are_pairs table front back n) t) (omega arith)
    ]

pub decimal_pair_at : (p : ℕ) → p < 100 → (get_or DECIMAL_PAIRS (2 * p) 0 ≡ 48 + p / 10) × (get_or DECIMAL_PAIRS (2 * p + 1) 0 ≡ 48 + p % 10)
decimal_pair_at p h = pair_at DECIMAL_PAIRS (λ p. 48 + p / 10) (λ p. 48 + p % 10) 100 p tt h

pub hex_pair_at : (p : ℕ) → p < 256 → (get_or HEX_PAIRS (2 * p) 0 ≡ hex_digit (p / 16)) × (get_or HEX_PAIRS (2 * p + 1) 0 ≡ hex_digit (p % 16))
hex_pair_at p h = pair_at HEX_PAIRS (λ p. hex_digit (p / 16)) (λ p. hex_digit (p % 16)) 256 p tt h

-- the digit of a number below 16 is the second one of its pair
pub hex_digit_at : (d : ℕ) → d < 16 → get_or HEX_PAIRS (2 * d + 1) 0 ≡ hex_digit d
hex_digit_at d h =
    let same : d % 16 ≡ d = omega arith in
    let pair = hex_pair_at d (omega arith) in
    rw same at pair.1

-- two bytes behind a text, one after the other
pub two_pushed : (old one two : List ℕ) (a b x y : ℕ) → one ≡ old ++ a ∷ [] → two ≡ one ++ b ∷ [] → a ≡ x → b ≡ y → two ≡ old ++ x ∷ y ∷ []
two_pushed old one two a b x y e f g h = rw (f, e, append_assoc, g, h) refl

-- the two digits of a number below 256
pub hex-two : (v : ℕ) → v < 256 → hex 2 v ≡ hex_digit (v / 16) ∷ hex_digit (v % 16) ∷ []
unfolding hex
hex-two v h = let e : v / 16 % 16 ≡ v / 16 = omega arith in rw e refl

-- two more digits
hex-two_more : (left v : ℕ) → hex (left + 2) v ≡ hex left (v / 256) ++ hex 2 (v % 256)
hex-two_more left v =
    let a : left + 2 ≡ left + 1 + 1 = omega arith in
    let b : v / 16 / 16 ≡ v / 256 = omega arith in
    let c : v % 256 / 16 ≡ v / 16 % 16 = omega arith in
    let d : v % 256 % 16 ≡ v % 16 = omega arith in
    rw (a, hex-one_more (left + 1) v, hex-one_more left (v / 16), append_assoc, b, hex-two (v % 256) (omega arith), c, d) refl

next_byte : (value pair : ℕ) → value / 2 ^ (8 * (pair + 1)) ≡ (value / 2 ^ (8 * pair)) / 256
next_byte value pair =
    let more : 8 * (pair + 1) ≡ 8 * pair + 8 = omega arith in
    rw (more, pow-add 2 (8 * pair) 8) (sym (div-div-eq-div-mul value (2 ^ (8 * pair)) 256))

-- two more digits behind a text and the digits before them
pub hex-push_two : (places pair value : ℕ) (text now more : List ℕ) → 0 < pair → 2 * pair ≤ places
    → now ≡ text ++ hex (places - 2 * pair) (value / 2 ^ (8 * pair))
    → more ≡ now ++ hex 2 ((value / 2 ^ (8 * (pair - 1))) % 256)
    → more ≡ text ++ hex (places - 2 * (pair - 1)) (value / 2 ^ (8 * (pair - 1)))
hex-push_two places pair value text now more some within before after =
    let next : pair ≡ (pair - 1) + 1 = omega arith in
    let left : places - 2 * (pair - 1) ≡ (places - 2 * pair) + 2 = omega arith in
    let before' : now ≡ text ++ hex (places - 2 * pair) (value / 2 ^ (8 * ((pair - 1) + 1))) = rw (← next) before in
    rw (left, after, before', append_assoc, next_byte value (pair - 1), hex-two_more (places - 2 * pair) (value / 2 ^ (8 * (pair - 1)))) refl

-- nothing is written yet of an even number of digits
pub hex-even : (places value : ℕ) (text : List ℕ) → places % 2 ≡ 0 → text ≡ text ++ hex (places - 2 * (places / 2)) (value / 2 ^ (8 * (places / 2)))
unfolding hex
hex-even places value text even = let none : places - 2 * (places / 2) ≡ 0 = omega arith in rw none (sym (append-nil text))

-- the first one is written of an odd number of digits
pub hex-odd : (places value : ℕ) (text : List ℕ) → places % 2 ≡ 1
    → text ++ hex_digit ((value / 2 ^ (4 * (places - 1))) % 16) ∷ [] ≡ text ++ hex (places - 2 * (places / 2)) (value / 2 ^ (8 * (places / 2)))
unfolding hex
hex-odd places value text odd =
    let one : places - 2 * (places / 2) ≡ 1 = omega arith in
    let same : 4 * (places - 1) ≡ 8 * (places / 2) = omega arith in
    rw (one, same) refl

pub decimal-first_digit : (n : ℕ) (text : List ℕ) → n < 10 → text ++ (48 + n) ∷ [] ≡ text ++ decimal n
decimal-first_digit n text small = rw (decimal_digit n small) refl

pub decimal-first_pair : (n : ℕ) (text : List ℕ) → 10 ≤ n → n < 100 → text ++ (48 + n / 10) ∷ (48 + n % 10) ∷ [] ≡ text ++ decimal n
decimal-first_pair n text some small = rw (decimal_two n some small) refl

-- two digits behind those of the hundreds
pub decimal-hundreds : (n : ℕ) (text front now : List ℕ) → 100 ≤ n → n < 2 ^ 64
    → front ≡ text ++ decimal (n / 100) → now ≡ front ++ (48 + n % 100 / 10) ∷ (48 + n % 100 % 10) ∷ [] → now ≡ text ++ decimal n
decimal-hundreds n text front now some small before after = rw (after, before, append_assoc, decimal_pair n some small) refl

-- four digits behind those of the myriads
pub decimal-myriads : (n : ℕ) (text front next now : List ℕ) → 10000 ≤ n → n < 2 ^ 64
    → front ≡ text ++ decimal (n / 10000)
    → next ≡ front ++ (48 + n % 10000 / 100 / 10) ∷ (48 + n % 10000 / 100 % 10) ∷ []
    → now ≡ next ++ (48 + n % 10000 % 100 / 10) ∷ (48 + n % 10000 % 100 % 10) ∷ []
    → now ≡ text ++ decimal n
decimal-myriads n text front next now some small before then after =
    rw (after, then, before, append_assoc, append_assoc, decimal_four n some small) refl
