-- The value of the digits so far.
use Rattle.std.proofs.Common.{◌≡◌, ℕ, suc, ◌+◌, ◌*◌, ◌^◌, ◌<◌, ◌≤◌, inl, inr, Bool, true, false, ltb, List, ◌∷◌, drop, Result, Ok, Err, refl, sym, ap, subst, ◌∙◌, arith, lit<, lit≤}
use Rattle.std.proofs.Math.Nat.{pow-le-pow_right, pow-succ'}
use Rattle.std.proofs.lemmas.Bool.{ltb-true, ltb-false}
use Rattle.trace_words.specs.declared.cause.Cause.{Cause}
use Rattle.trace_words.specs.declared.cause.Cause.TheVariants.{BadNumber}
use Rattle.trace_words.specs.Number.{hexadecimal_digit, IsDigitOrNone, spelled}

-- the digits before index i are worth the value
pub record IsSpelledSoFar (digit : ℕ → Result ℕ Cause) (base : ℕ) (word : List ℕ) (i value : ℕ) : Type 0 where
  pub same : spelled digit base value (drop i word) ≡ spelled digit base 0 word
  pub small : value < base ^ i

-- the same of table entries: where their sum is 128 or more, one of the at most eight is none
pub record IsSummedSoFar (word : List ℕ) (i value sum : ℕ) : Type 0 where
  pub bound : value + 9 ≤ 9 * 16 ^ i
  pub most : sum ≤ 128 * i
  pub few : sum < 128 → sum ≤ 15 * i
  pub right : sum < 128 → IsSpelledSoFar hexadecimal_digit 16 word i value
  pub wrong : 128 ≤ sum → spelled hexadecimal_digit 16 0 word ≡ Err BadNumber

next_spelled : (value d b : ℕ) (rest : List ℕ) → hexadecimal_digit b ≡ Ok d → spelled hexadecimal_digit 16 value (b ∷ rest) ≡ spelled hexadecimal_digit 16 (16 * value + d) rest
next_spelled value d b rest is = rw is refl

none_spelled : (value b : ℕ) (rest : List ℕ) → hexadecimal_digit b ≡ Err BadNumber → spelled hexadecimal_digit 16 value (b ∷ rest) ≡ Err BadNumber
none_spelled value b rest is = rw is refl

to_suc : (i j : ℕ) → j ≡ i + 1 → j ≡ suc i
to_suc i j next = omega (arith, next)

-- one power more
power : (i j a d : ℕ) → j ≡ i + 1 → a + 9 ≤ 9 * 16 ^ i → d ≤ 128 → 16 * a + d + 9 ≤ 9 * 16 ^ j
power i j a d next h most = let more : 16 ^ j ≡ 16 * 16 ^ i = ap (λ (k : ℕ). 16 ^ k) (to_suc i j next) ∙ pow-succ' 16 i in omega (arith, h, most, more)

less_power : (i j a d : ℕ) → j ≡ i + 1 → a < 16 ^ i → d < 16 → 16 * a + d < 16 ^ j
less_power i j a d next h most = let more : 16 ^ j ≡ 16 * 16 ^ i = ap (λ (k : ℕ). 16 ^ k) (to_suc i j next) ∙ pow-succ' 16 i in omega (arith, h, most, more)

summed_digit : (word : List ℕ) (i j value sum b d : ℕ) → j ≡ i + 1 → i < 8 → IsSummedSoFar word i value sum → drop i word ≡ b ∷ drop j word → d < 16 → hexadecimal_digit b ≡ Ok d
    → IsSummedSoFar word j (16 * value + d) (sum + d)
summed_digit word i j value sum b d next lt h cut small is = record {
  bound = power i j value d next h.bound (omega arith);
  most = omega (arith, h.most, small, next);
  few = λ less. omega (arith, h.few (omega (arith, less)), small, next);
  right = λ less.
      let before = h.right (omega (arith, less)) in record {
        same = sym (next_spelled value d b (drop j word) is) ∙ ap (spelled hexadecimal_digit 16 value) (sym cut) ∙ before.same;
        small = less_power i j value d next before.small small;
      };
  wrong = λ more. by_case (ltb sum 128) refl more;
} where
  by_case : (t : Bool) → ltb sum 128 ≡ t → 128 ≤ sum + d → spelled hexadecimal_digit 16 0 word ≡ Err BadNumber
  by_case true less more = absurd (omega (arith, h.few (ltb-true sum 128 less), more, small, lt))
  by_case false less more = h.wrong (ltb-false sum 128 less)

summed_none : (word : List ℕ) (i j value sum b : ℕ) → j ≡ i + 1 → IsSummedSoFar word i value sum → drop i word ≡ b ∷ drop j word → hexadecimal_digit b ≡ Err BadNumber
    → IsSummedSoFar word j (16 * value + 128) (sum + 128)
summed_none word i j value sum b next h cut is = record {
  bound = power i j value 128 next h.bound (lit≤ tt);
  most = omega (arith, h.most, next);
  few = λ less. absurd (omega (arith, less));
  right = λ less. absurd (omega (arith, less));
  wrong = λ more. by_case (ltb sum 128) refl;
} where
  by_case : (t : Bool) → ltb sum 128 ≡ t → spelled hexadecimal_digit 16 0 word ≡ Err BadNumber
  by_case true less = let before = h.right (ltb-true sum 128 less) in sym before.same ∙ ap (spelled hexadecimal_digit 16 value) cut ∙ none_spelled value b (drop j word) is
  by_case false less = h.wrong (ltb-false sum 128 less)

pub summed_more : (word : List ℕ) (i j value sum b d : ℕ) → j ≡ i + 1 → i < 8 → IsSummedSoFar word i value sum → drop i word ≡ b ∷ drop j word → IsDigitOrNone b d
    → IsSummedSoFar word j (16 * value + d) (sum + d)
summed_more word i j value sum b d next lt h cut (inl is) = summed_digit word i j value sum b d next lt h cut is.0 is.1
summed_more word i j value sum b d next lt h cut (inr is) = subst (λ (e : ℕ). IsSummedSoFar word j (16 * value + e) (sum + e)) (sym is.0) (summed_none word i j value sum b next h cut is.1)

pub within : (i value : ℕ) → i < 8 → value + 9 ≤ 9 * 16 ^ i → value < 2 ^ 32
within i value lt h =
    let most : 16 ^ i ≤ 16 ^ 7 = pow-le-pow_right {n = 16} (lit< tt) {i = i} {j = 7} (omega arith) in
    omega (arith, most, h)

pub fits_word : (i value : ℕ) → i ≤ 8 → value < 16 ^ i → value < 2 ^ 32
fits_word i value few h =
    let most : 16 ^ i ≤ 16 ^ 8 = pow-le-pow_right {n = 16} (lit< tt) {i = i} {j = 8} few in
    omega (arith, most, h)

pub digit_small : (b d : ℕ) → IsDigitOrNone b d → d ≤ 128
digit_small b d (inl is) = omega (arith, is.0)
digit_small b d (inr is) = omega (arith, is.0)
