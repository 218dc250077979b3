-- What the words ask `make` for, by the values of their options.
use Rattle.std.proofs.Common.{◌≡◌, ℕ, zero, suc, List, [], ◌∷◌, refl, sym, ◌∙◌, ap, arith, subst, codes}
use Rattle.std.specs.Prelude.{Option, Some, None, IfSome, IfNone, option_map}
use Rattle.std.specs.List.{All, IsDistinct}
use Rattle.command_options.specs.Options.{AreNames, HasOptions, IsName}
use Rattle.run_commands.specs.declared.make.Make.{Make}
use Rattle.run_commands.specs.MakeLine.{AreNumbers, AsksToMake}

abbrev pub names : List (List ℕ)
names = codes "seed" ∷ codes "procs" ∷ codes "refs" ∷ []

each_named : All IsName names
each_named zero d lt = (omega arith, refl)
each_named (suc zero) d lt = (omega arith, refl)
each_named (suc (suc zero)) d lt = (omega arith, refl)
each_named (suc (suc (suc k))) d lt = absurd (omega (arith, lt))

pub are_names : AreNames names
unfolding IsDistinct
are_names = record { spelled = each_named; differ = ((refl, (refl, tt)), ((refl, tt), (tt, tt))) }

same : {values others : List (List ℕ)} → Some values ≡ Some others → values ≡ others
same e = cc

other : {values : List (List ℕ)} → None ≡ Some values → ⊥
other e = cc

pub asked : (words values : List (List ℕ)) → HasOptions names values words → (found : Option Make) → IfSome found (AreNumbers values) → IfSome found (AsksToMake words)
asked words values has None numbers = tt
asked words values has (Some make) numbers = record { values = values; options = has; numbers = numbers }

pub not_asked : (words values : List (List ℕ)) → ((others : List (List ℕ)) → HasOptions names others words → Some values ≡ Some others) → (found : Option Make)
    → IfNone found ((make : Make) → AreNumbers values make → ⊥) → IfNone found ((make : Make) → AsksToMake words make → ⊥)
not_asked words values all (Some make) never = tt
not_asked words values all None never = λ make asks. never make (subst (λ l. AreNumbers l make) (sym (same (all asks.values asks.options))) asks.numbers)

pub none_asked : (words : List (List ℕ)) → ((others : List (List ℕ)) → HasOptions names others words → None ≡ Some others) → (make : Make) → AsksToMake words make → ⊥
none_asked words all make asks = other (all asks.values asks.options)

-- the same of the values that were read of the words, by a list of names that is this one
module _ {V : Type 0} (values_of : V → List (List ℕ)) (list words : List (List ℕ)) (are : list ≡ names) (read : Option V) where
  pub not_asked_by : (v : V) → read ≡ Some v → ((others : List (List ℕ)) → HasOptions list others words → option_map values_of read ≡ Some others)
      → (values : List (List ℕ)) → values ≡ values_of v → (found : Option Make) → IfNone found ((make : Make) → AreNumbers values make → ⊥) → IfNone found ((make : Make) → AsksToMake words make → ⊥)
  not_asked_by v is all values same_values found never =
      not_asked words values (λ others has. ap (λ (l : List (List ℕ)). Some l) same_values ∙ sym (ap (λ (o : Option V). option_map values_of o) is) ∙ all others (subst (λ l. HasOptions l others words) (sym are) has)) found never

  pub none_asked_by : read ≡ None → ((others : List (List ℕ)) → HasOptions list others words → option_map values_of read ≡ Some others) → (make : Make) → AsksToMake words make → ⊥
  none_asked_by is all make asks =
      none_asked words (λ others has. sym (ap (λ (o : Option V). option_map values_of o) is) ∙ all others (subst (λ l. HasOptions l others words) (sym are) has)) make asks
