-- Decimal digits without leading zeros are the text of their number, and of no other.
use Rattle.std.proofs.Common.{◌≡◌, ◌≢◌, ℕ, ◌+◌, ◌*◌, ◌^◌, ◌<◌, ◌≤◌, List, [], ◌∷◌, ◌-◌, length, refl, get_or, take, sym, ◌∙◌, ap, subst, arith, lit<, lit≤, inl, inr}
use Rattle.std.specs.Prelude.{decimal}
use Rattle.std.specs.Int.{IsInRange}
use Rattle.std.specs.Char.{digit_value}
use Rattle.std.specs.Str.Parse.{AllDigits, digits_value}
use Rattle.std.proofs.lemmas.Bool.{cases_lt}
use Rattle.std.proofs.lemmas.Fmt.{decimal_nonempty, length-decimal-le, first_decimal, decimal_digit, digits_decimal, digits_value-decimal, decimal-digits_value}
use Rattle.std.proofs.lemmas.Int.Digits.{digits_value_more, digits_more}
use Rattle.std.proofs.lemmas.List.{take_all}
use Rattle.std.proofs.lemmas.Str.{digit_value_digit}
use Rattle.std.proofs.lemmas.Str.Parse.{IsNumeralModel, numerals_by_value, tells_digits, digit_at, digits_value-take-le}

own : IsNumeralModel (AllDigits 10) (digits_value 10)
own = numerals_by_value (AllDigits 10) tells_digits

module _ (word : List ℕ) (n : ℕ) (small : n < 2 ^ 64) (is : decimal n ≡ word) where
  pub has_bytes : 0 < length word
  has_bytes = subst (λ w. 0 < length w) is (decimal_nonempty n small)

  pub few_bytes : length word ≤ 20
  few_bytes = subst (λ w. length w ≤ 20) is (length-decimal-le 20 n (lit< tt) (omega (arith, lit≤ {m = 2 ^ 64} {n = 10 ^ 20} tt)) small)

  pub no_zero_first : get_or word 0 0 ≡ 48 → length word ≤ 1
  no_zero_first zero_first =
      elim (cases_lt 0 n) [
        | inl some ↦
            let first : 48 < get_or word 0 0 = subst (λ w. 48 < get_or w 0 0) is (first_decimal n some small) in
            absurd (omega arith)
        | inr none ↦
            let one : decimal n ≡ (48 + n) ∷ [] = decimal_digit n (omega arith) in
            omega (arith, ap (length {A = ℕ}) (sym is ∙ one))
      ]

  all_digits : AllDigits 10 word
  all_digits = subst (AllDigits 10) is (digits_decimal own n small)

  value_is : digits_value 10 word ≡ n
  value_is = ap (digits_value 10) (sym is) ∙ digits_value-decimal own n small

  pub byte_in : (i : ℕ) → i < length word → IsInRange 48 57 (get_or word i 0)
  byte_in i within = digit_at word i all_digits within

  pub front_value : (i : ℕ) → digits_value 10 (take i word) ≤ n
  front_value i = subst (λ v. digits_value 10 (take i word) ≤ v) value_is (digits_value-take-le 10 word i (omega arith))

-- digits without a leading zero
pub spells : (word : List ℕ) → AllDigits 10 word → 0 < length word → (get_or word 0 0 ≡ 48 → length word ≤ 1) → digits_value 10 word < 2 ^ 64
    → decimal (digits_value 10 word) ≡ word
spells word digits some first small = decimal-digits_value own word digits some (λ e. let one : length word ≤ 1 = first e in omega arith) small

-- what the bytes up to a place are, and their value
pub record IsReadSoFar (word : List ℕ) (i value : ℕ) : Type 0 where
  pub digits : AllDigits 10 (take i word)
  pub same : value ≡ digits_value 10 (take i word)

pub none_read : (word : List ℕ) → IsReadSoFar word 0 0
none_read word = record { digits = tt; same = refl }

-- one digit more
pub one_read : (word : List ℕ) (i value next : ℕ) → i < length word → IsReadSoFar word i value → IsInRange 48 57 (get_or word i 0)
    → next ≡ value * 10 + (get_or word i 0 - 48) → IsReadSoFar word (i + 1) next
one_read word i value next within so_far range is =
    let digit : digit_value (get_or word i 0) + 48 ≡ get_or word i 0 = digit_value_digit (get_or word i 0) range in
    let sum : digits_value 10 (take (i + 1) word) ≡ digits_value 10 (take i word) * 10 + digit_value (get_or word i 0) = digits_value_more 10 word i within in
    let before : value ≡ digits_value 10 (take i word) = so_far.same in
    let bound : (48 ≤ get_or word i 0) × (get_or word i 0 ≤ 57) = range in
    record {
      digits = digits_more 10 word i within so_far.digits (omega arith);
      same = omega arith;
    }

-- digits whose value has more than 64 bits are no such number's
pub too_large : (word : List ℕ) (i value n : ℕ) → i < length word → IsReadSoFar word i value → IsInRange 48 57 (get_or word i 0)
    → 2 ^ 64 ≤ value * 10 + (get_or word i 0 - 48) → n < 2 ^ 64 → decimal n ≢ word
too_large word i value n within so_far range large small is =
    let more : (value * 10 + (get_or word i 0 - 48)) ≡ digits_value 10 (take (i + 1) word) = (one_read word i value (value * 10 + (get_or word i 0 - 48)) within so_far range refl).same in
    let below : digits_value 10 (take (i + 1) word) ≤ n = front_value word n small is (i + 1) in
    omega arith

-- all digits
pub all_read : (word : List ℕ) (i value : ℕ) → length word ≤ i → value < 2 ^ 64 → IsReadSoFar word i value → 0 < length word → (get_or word 0 0 ≡ 48 → length word ≤ 1)
    → (value < 2 ^ 64) × (decimal value ≡ word)
all_read word i value past small so_far some first =
    let whole : take i word ≡ word = take_all i word past in
    let digits : AllDigits 10 word = subst (AllDigits 10) whole so_far.digits in
    let is : value ≡ digits_value 10 word = so_far.same ∙ ap (digits_value 10) whole in
    (small, ap decimal is ∙ spells word digits some first (subst (λ v. v < 2 ^ 64) is small))
