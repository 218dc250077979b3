-- Words with a text in the place of their first %.
use Rattle.std.proofs.Common.{◌≡◌, ℕ, List, [], ◌∷◌, ◌++◌, All, refl, ap}
use Rattle.std.specs.List.{AllByRecursion}
use Rattle.std.proofs.lemmas.Bool.{ne_eqb}
use Rattle.std.proofs.lemmas.List.Elements.{recursion_from_All}
use Rattle.vm_text.specs.Spaced.{IsOther}
use Rattle.command_messages.specs.ReasonText.{filled_in}

none_by : (words text : List ℕ) → AllByRecursion (IsOther 37) words → filled_in words text ≡ words
none_by [] text other = refl
none_by (b ∷ words) text other = rw (ne_eqb b 37 other.0) (ap (λ (rest : List ℕ). b ∷ rest) (none_by words text other.1))

pub filled_none : (words text : List ℕ) → All (IsOther 37) words → filled_in words text ≡ words
filled_none words text other = none_by words text (recursion_from_All (IsOther 37) words other)

at_by : (front back text : List ℕ) → AllByRecursion (IsOther 37) front → filled_in (front ++ 37 ∷ back) text ≡ front ++ (text ++ back)
at_by [] back text other = refl
at_by (b ∷ front) back text other = rw (ne_eqb b 37 other.0) (ap (λ (rest : List ℕ). b ∷ rest) (at_by front back text other.1))

pub filled_at : (front back text : List ℕ) → All (IsOther 37) front → filled_in (front ++ 37 ∷ back) text ≡ front ++ (text ++ back)
filled_at front back text other = at_by front back text (recursion_from_All (IsOther 37) front other)
