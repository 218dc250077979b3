-- The numbers of a range.
use Rattle.std.proofs.Common.{◌≡◌, ℕ, zero, suc, ◌+◌, ◌<◌, ◌≤◌, List, [], ◌∷◌, length, arith, ⊎_elim, Contains, refl}
use Rattle.std.specs.List.{range_with_len}
use mathlib.Core.Logic.{dite}
use native.Mathlib.Decide.{ℕ_discrete}
use Rattle.history_lock.proofs.Sums.{no_element, has_cases, has_later}

pub in_range : (a n k : ℕ) → Contains (range_with_len a n) k → (a ≤ k) × (k < a + n)
in_range a zero k h = absurd (no_element k h)
in_range a (suc n) k h = ⊎_elim (λ (e : a ≡ k). (omega arith, omega arith)) (λ (c : Contains (range_with_len (a + 1) n) k). let t = in_range (a + 1) n k c in let l = t.0 in let m = t.1 in (omega arith, omega arith))
    (has_cases a k (range_with_len (a + 1) n) h)

pub range_has : (a n k : ℕ) → a ≤ k → k < a + n → Contains (range_with_len a n) k
range_has a zero k l m = absurd (omega arith)
range_has a (suc n) k l m = dite (ℕ_discrete a k) (λ e. (0, omega arith, e)) (λ ne. has_later a k (range_with_len (a + 1) n) (range_has (a + 1) n k (omega arith) (omega arith)))

pub some_number : (xs : List ℕ) → 0 < length xs → (k : ℕ) × Contains xs k
some_number [] h = absurd (omega arith)
some_number (x ∷ xs) h = (x, (0, omega arith, refl))
