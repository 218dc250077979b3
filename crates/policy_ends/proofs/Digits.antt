-- A lower list of digits is a smaller number.
use Rattle.std.proofs.Common.{◌≡◌, inl, inr, ℕ, ◌+◌, ◌*◌, ◌^◌, ◌<◌, List, [], ◌∷◌, length, sym, ap, subst, arith}
use Rattle.std.specs.List.{AllByRecursion}
use Rattle.std.proofs.Math.Nat.{mul-le-mul_right, pow-suc, pow-zero}
use Rattle.std.proofs.lemmas.Nat.{mul-add-lt}
use Rattle.policy_ends.specs.Bound.{value_of}
use Rattle.policy_ends.specs.Rank.{IsLower}

abbrev pub AreDigits : ℕ → List ℕ → Type 0
AreDigits base xs = AllByRecursion (λ (x : ℕ). x < base) xs

-- digits make a number below the next power
pub value_below : (base : ℕ) (xs : List ℕ) → AreDigits base xs → value_of base xs < base ^ length xs
value_below base [] each = let one = pow-zero base in omega (arith, one)
value_below base (x ∷ xs) each =
    subst (λ (n : ℕ). x * base ^ length xs + value_of base xs < n) (sym (pow-suc base (length xs))) (mul-add-lt x (base ^ length xs) (value_of base xs) base each.0 (value_below base xs each.1))

higher_digit : (x y p f g : ℕ) → x < y → f < p → x * p + f < y * p + g
higher_digit x y p f g less below =
    let more = mul-le-mul_right p less in
    grind (arith, more, below)

same_digit : (x y p q f g : ℕ) → x ≡ y → p ≡ q → f < g → x * p + f < y * q + g
same_digit x y p q f g first second less = subst (λ (z : ℕ). x * p + f < z * q + g) first (subst (λ (z : ℕ). x * p + f < x * z + g) second (omega (arith, less)))

pub value_lower : (base : ℕ) (xs ys : List ℕ) → length xs ≡ length ys → AreDigits base xs → AreDigits base ys → IsLower xs ys → value_of base xs < value_of base ys
value_lower base [] ys same digits also lower = absurd lower
value_lower base (x ∷ xs) [] same digits also lower = absurd lower
value_lower base (x ∷ xs) (y ∷ ys) same digits also (inl less) =
    let power : base ^ length xs ≡ base ^ length ys = ap (λ (n : ℕ). base ^ n) (omega (arith, same)) in
    subst (λ (n : ℕ). x * base ^ length xs + value_of base xs < y * n + value_of base ys) power
    (higher_digit x y (base ^ length xs) (value_of base xs) (value_of base ys) less (value_below base xs digits.1))
value_lower base (x ∷ xs) (y ∷ ys) same digits also (inr (equal, lower)) =
    same_digit x y (base ^ length xs) (base ^ length ys) (value_of base xs) (value_of base ys) equal (ap (λ (n : ℕ). base ^ n) (omega (arith, same)))
    (value_lower base xs ys (omega (arith, same)) digits.1 also.1 lower)
