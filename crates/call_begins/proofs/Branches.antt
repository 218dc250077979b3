-- The branch that a test leads to, and an item that is there.
use Rattle.std.proofs.Common.{◌≡◌, ℕ, ◌<◌, Bool, true, false, cond, List, [], ◌∷◌, Some, length, slice_get, slice_index_or, ap, arith}
use Rattle.std.proofs.lemmas.Option.{slice_get-get_or}

pub if_true : {X : Type 0} (b : Bool) (x y : X) → b ≡ true → cond b x y ≡ x
if_true b x y is = ap (λ (c : Bool). cond c x y) is

pub if_false : {X : Type 0} (b : Bool) (x y : X) → b ≡ false → cond b x y ≡ y
if_false b x y is = ap (λ (c : Bool). cond c x y) is

pub item_there : {X : Type 0} (xs : List X) (i : ℕ) → i < length xs → (x : X) × (slice_get xs i ≡ Some x)
item_there [] i less = absurd (omega (arith, less))
item_there (x ∷ xs) i less = (slice_index_or (x ∷ xs) i x, slice_get-get_or (x ∷ xs) i x less)
