-- The numbers of a range, one after another.
use Rattle.std.proofs.Common.{◌≡◌, ℕ, suc, ◌+◌, ◌-◌, ◌<◌, ◌≤◌, Bool, true, false, cond, ◌∷◌, Some, None, find, ap, ◌∙◌, arith}
use Rattle.std.specs.List.{range_with_len}

-- one more number
range_next : (k n : ℕ) → k < n → range_with_len k (n - k) ≡ k ∷ range_with_len (k + 1) (n - (k + 1))
range_next k n less = let more : n - k ≡ suc (n - (k + 1)) = omega (arith, less) in ap (range_with_len k) more

module _ (t : ℕ → Bool) (k n : ℕ) where
  found : (b : Bool) → k < n → t k ≡ b → find t (range_with_len k (n - k)) ≡ cond b (Some k) (find t (range_with_len (k + 1) (n - (k + 1))))
  found b less is = ap (find t) (range_next k n less) ∙ ap (λ (x : Bool). cond x (Some k) (find t (range_with_len (k + 1) (n - (k + 1))))) is

  -- which isn't the one that is looked for
  pub find_next : k < n → t k ≡ false → find t (range_with_len k (n - k)) ≡ find t (range_with_len (k + 1) (n - (k + 1)))
  find_next = found false

  -- which is the one
  pub find_here : k < n → t k ≡ true → find t (range_with_len k (n - k)) ≡ Some k
  find_here = found true

  -- no more numbers
  pub find_none : n ≤ k → find t (range_with_len k (n - k)) ≡ None
  find_none least = let none : n - k ≡ 0 = omega (arith, least) in ap (λ (m : ℕ). find t (range_with_len k m)) none
