-- The one slot of a page number.
use Rattle.std.proofs.Common.{◌≡◌, ℕ, zero, suc, ◌+◌, ◌<◌, ◌≤◌, Bool, true, false, cond, not, List, [], ◌∷◌, Some, count_by, slice_get, refl, ap, ◌∙◌, arith}
use Rattle.std.specs.List.{position_or_len}
use Rattle.std.proofs.lemmas.Option.{none-some, same_Some}
use Rattle.pager_rules.proofs.Basics.{count_cons, count_cons_no, count_cons_yes}

counted_there : {X : Type 0} (t : X → Bool) (xs : List X) (n : ℕ) (x : X) → slice_get xs n ≡ Some x → t x ≡ true → 0 < count_by t xs
counted_there t [] n x is passes = absurd (none-some x is)
counted_there {X} t (y ∷ ys) zero x is passes =
    let same : y ≡ x = same_Some y x is in
    omega (arith, count_cons_yes t y ys (ap t same ∙ passes))
counted_there {X} t (y ∷ ys) (suc n) x is passes = omega (arith, count_cons t y ys, counted_there t ys n x is passes)

-- the place of an item that passes a test which one passes at most
pub only_place : {X : Type 0} (t : X → Bool) (xs : List X) (n : ℕ) (x : X) → slice_get xs n ≡ Some x → t x ≡ true → count_by t xs ≤ 1 → position_or_len t xs ≡ n
only_place t [] n x is passes once = absurd (none-some x is)
only_place {X} t (y ∷ ys) zero x is passes once = ap (λ (b : Bool). cond (not b) (1 + position_or_len t ys) 0) (ap t (same_Some y x is) ∙ passes)
only_place {X} t (y ∷ ys) (suc n) x is passes once = go (t y) refl (only_place t ys n x is passes)
  where
    go : (b : Bool) → t y ≡ b → (count_by t ys ≤ 1 → position_or_len t ys ≡ n) → position_or_len t (y ∷ ys) ≡ suc n
    go true first rest = absurd (omega (arith, once, count_cons_yes t y ys first, counted_there t ys n x is passes))
    go false first rest =
        let later = rest (omega (arith, once, count_cons_no t y ys first)) in
        ap (λ (b : Bool). cond (not b) (1 + position_or_len t ys) 0) first ∙ omega (arith, later)
