-- What a search finds passes its test.
use Rattle.std.proofs.Common.{◌≡◌, Bool, true, false, cond, List, [], ◌∷◌, Option, Some, None, find, refl, subst}
use Rattle.std.proofs.lemmas.Bool.{false≢true}
use Rattle.std.proofs.lemmas.Option.{none-some, same_Some}
use Rattle.pager_model.specs.Lookups.{passes}

pub found_passes : {X : Type 0} (t : X → Bool) (xs : List X) (x : X) → find t xs ≡ Some x → t x ≡ true
found_passes t [] x found = absurd (none-some x found)
found_passes {X} t (y ∷ xs) x found = by (t y) refl found (found_passes t xs x)
  where
    by : (b : Bool) → t y ≡ b → cond b (Some y) (find t xs) ≡ Some x → (find t xs ≡ Some x → t x ≡ true) → t x ≡ true
    by true is here rest = subst (λ (z : X). t z ≡ true) (same_Some y x here) is
    by false is there rest = rest there

-- what passes is there
pub passing : {X : Type 0} (t : X → Bool) (o : Option X) → passes t o ≡ true → (x : X) × (o ≡ Some x)
passing t None is = absurd (false≢true is)
passing t (Some x) is = (x, refl)
