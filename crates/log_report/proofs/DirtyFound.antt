-- Whether one of the frames up to a number meets a test.
use Rattle.std.proofs.Common.{◌≡◌, ◌⊎◌, inl, inr, ℕ, zero, suc, ◌+◌, ◌<◌, ◌≤◌, ◌||◌, Bool, true, false, refl, sym, ap, ◌∙◌, arith}
use Rattle.std.specs.List.{list_any, range_with_len}
use Rattle.std.proofs.lemmas.Bool.{cases_eq, false≢true}

pub one_found : (t : ℕ → Bool) (from n f : ℕ) → from ≤ f → f < from + n → t f ≡ true → list_any t (range_with_len from n) ≡ true
one_found t from zero f low high is = absurd (omega (arith, low, high))
one_found t from (suc n) f low high is = go (t from) refl (cases_eq from f) (λ later. one_found t (from + 1) n f later (omega (arith, high)) is)
  where
    go : (b : Bool) → t from ≡ b → (from ≡ f) ⊎ (from ≡ f → ⊥) → (from + 1 ≤ f → list_any t (range_with_len (from + 1) n) ≡ true) → (b || list_any t (range_with_len (from + 1) n)) ≡ true
    go true at here rest = refl
    go false at (inl same) rest = absurd (false≢true (sym at ∙ (ap t same ∙ is)))
    go false at (inr apart) rest = rest (omega (arith, low, apart))

pub none_found : (t : ℕ → Bool) (from n : ℕ) → ((f : ℕ) → from ≤ f → f < from + n → t f ≡ false) → list_any t (range_with_len from n) ≡ false
none_found t from zero none = refl
none_found t from (suc n) none =
    ap (λ (b : Bool). b || list_any t (range_with_len (from + 1) n)) (none from (omega arith) (omega arith))
    ∙ none_found t (from + 1) n (λ f low high. none f (omega (arith, low)) (omega (arith, high)))

-- the next one doesn't meet it either
pub none_more : (t : ℕ → Bool) (n : ℕ) → ((f : ℕ) → f < n → t f ≡ false) → t n ≡ false → (f : ℕ) → f < n + 1 → t f ≡ false
none_more t n none is f within = go (cases_eq n f)
  where
    go : (n ≡ f) ⊎ (n ≡ f → ⊥) → t f ≡ false
    go (inl same) = sym (ap t same) ∙ is
    go (inr apart) = none f (omega (arith, within, apart))
