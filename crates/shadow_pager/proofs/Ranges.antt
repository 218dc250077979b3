-- The numbers of a range, one after another.
use Rattle.std.proofs.Common.{◌≡◌, ℕ, ◌+◌, ◌-◌, ◌<◌, Bool, cond, suc, List, [], ◌∷◌, Option, Some, length, refl, sym, ap, ap₂, ◌∙◌, arith}
use Rattle.std.specs.Prelude.{find, position, slice_index_or}
use Rattle.std.specs.List.{position_from, range_with_len}
use Rattle.std.proofs.lemmas.Iterator.Adapters.{position_from-zero}

-- the numbers of a range from one of them on
pub range_next : (first k n : ℕ) → k < n → range_with_len (first + k) (n - k) ≡ (first + k) ∷ range_with_len (first + (k + 1)) (n - (k + 1))
range_next first k n below =
    let more : n - k ≡ suc (n - (k + 1)) = omega arith in
    let next : first + k + 1 ≡ first + (k + 1) = omega arith in
    ap (range_with_len (first + k)) more ∙ ap (λ (m : ℕ). (first + k) ∷ range_with_len m (n - (k + 1))) next

-- the first number whose item passes is the first place that passes
found_from : {X : Type 0} (p : X → Bool) (d : X) (q : ℕ → Bool) (xs : List X) (a : ℕ) → ((i m : ℕ) → m ≡ a + i → q m ≡ p (slice_index_or xs i d))
    → find q (range_with_len a (length xs)) ≡ position_from p a xs
found_from p d q [] a same = refl
found_from p d q (x ∷ xs) a same =
    let here : a ≡ a + 0 = omega arith in
    let rest = found_from p d q xs (a + 1) (λ i m is. let next : m ≡ a + suc i = omega arith in same (suc i) m next) in
    ap₂ (λ (b : Bool) (o : Option ℕ). cond b (Some a) o) (same 0 a here) rest

pub found_first : {X : Type 0} (p : X → Bool) (d : X) (xs : List X) → position p xs ≡ find (λ (f : ℕ). p (slice_index_or xs f d)) (range_with_len 0 (length xs))
found_first p d xs =
    position_from-zero p xs
    ∙ sym (found_from p d (λ (f : ℕ). p (slice_index_or xs f d)) xs 0 (λ i m is. let same : m ≡ i = omega arith in ap (λ (n : ℕ). p (slice_index_or xs n d)) same))
