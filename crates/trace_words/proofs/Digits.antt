-- The table of the values of hexadecimal digits.
use Rattle.std.proofs.Common.{refl, sym, Bool, true, false, ltb, ◌≡◌, ℕ, zero, suc, ◌+◌, ◌-◌, ◌<◌, ◌≤◌, leb, ◌&&◌, inl, inr, List, [], ◌∷◌, Ok, Err, get_or, ap, arith, if◌then◌else◌}
use Rattle.std.proofs.lemmas.Bool.{ltb-true, ltb-false}
use Rattle.trace_words.specs.declared.cause.Cause.TheVariants.{BadNumber}
use Rattle.trace_words.specs.Number.{hexadecimal_digit, IsDigitOrNone}

-- 128 if it is no digit
unfoldable pub value_of : ℕ → ℕ
value_of b =
    if leb 48 b && leb b 57 then b - 48
    else if leb 65 b && leb b 70 then b - 55
    else if leb 97 b && leb b 102 then b - 87
    else 128

unfoldable pub values : ℕ → ℕ → List ℕ
values first zero = []
values first (suc n) = value_of first ∷ values (suc first) n

value_at : (n first i b d : ℕ) → i < n → b ≡ first + i → get_or (values first n) i d ≡ value_of b
unfolding values
value_at zero first i b d less e = absurd (omega (arith, less))
value_at (suc n) first zero b d less e = let same : first ≡ b = omega (arith, e) in ap value_of same
value_at (suc n) first (suc i) b d less e = value_at n (suc first) i b d (omega (arith, less)) (omega (arith, e))

digit_by : (b d : ℕ) → d ≡ value_of b → d < 16 → Ok d ≡ hexadecimal_digit b
unfolding value_of
digit_by b d e less = grind arith

none_by : (b d : ℕ) → d ≡ value_of b → 16 ≤ d → Err BadNumber ≡ hexadecimal_digit b
unfolding value_of
none_by b d e more = grind arith

entry_of : (b d : ℕ) → d ≡ value_of b → IsDigitOrNone b d
unfolding value_of
entry_of b d e = by_size (ltb d 16) refl where
  by_size : (t : Bool) → ltb d 16 ≡ t → IsDigitOrNone b d
  by_size true less = inl (ltb-true d 16 less, sym (digit_by b d e (ltb-true d 16 less)))
  by_size false more = inr (grind arith, sym (none_by b d e (ltb-false d 16 more)))

-- by the table's entry
pub by_entry : (b d : ℕ) → b < 256 → IsDigitOrNone b (get_or (values 0 256) b d)
by_entry b d less = entry_of b (get_or (values 0 256) b d) (value_at 256 0 b b d less (omega arith))
