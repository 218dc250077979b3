-- The numbers of a range, one after another.
use Rattle.std.proofs.Common.{◌≡◌, ℕ, suc, ◌+◌, ◌-◌, ◌<◌, Bool, false, ◌∷◌, find, ap, ◌∙◌, arith}
use Rattle.std.specs.List.{range_with_len}
use Rattle.pager_rules.proofs.Basics.{find_cons_no}

-- one more number
range_next : (k n : ℕ) → k < n → range_with_len k (n - k) ≡ k ∷ range_with_len (k + 1) (n - (k + 1))
range_next k n less = let more : n - k ≡ suc (n - (k + 1)) = omega (arith, less) in ap (range_with_len k) more

-- which isn't the one that is looked for
pub find_next : (t : ℕ → Bool) (k n : ℕ) → k < n → t k ≡ false → find t (range_with_len k (n - k)) ≡ find t (range_with_len (k + 1) (n - (k + 1)))
find_next t k n less is = ap (find t) (range_next k n less) ∙ find_cons_no t k (range_with_len (k + 1) (n - (k + 1))) is
