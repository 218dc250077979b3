-- A search of a list for an element with a given part.
use Rattle.std.proofs.Common.{◌≡◌, ◌+◌, ◌<◌, ◌∙◌, ℕ, List, length, map, take, get_or, ap, ⊎_elim}
use Rattle.std.specs.Prelude.{Contains}
use Rattle.std.proofs.lemmas.List.{map_more}
use Rattle.std.proofs.lemmas.List.Elements.{Contains-push_cases}

-- what no element so far has, and the next one has not, none of one more has
pub not_among_more : {X Y : Type 0} (f : X → Y) (xs : List X) (i : ℕ) (x : X) (y : Y) → i < length xs → x ≡ get_or xs i x → (f x ≡ y → ⊥) → (Contains (map f (take i xs)) y → ⊥) → Contains (map f (take (i + 1) xs)) y → ⊥
not_among_more f xs i x y lt is differs before now =
    ⊎_elim before (λ e. differs (ap f is ∙ e))
    (Contains-push_cases (map f (take i xs)) (f (get_or xs i x)) y (rw (map_more f xs i x lt) at now))
