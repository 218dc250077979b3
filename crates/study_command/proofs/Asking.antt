-- What the words ask for, by the values of their options.
use Rattle.std.proofs.Common.{◌≡◌, ℕ, zero, suc, List, [], ◌∷◌, refl, sym, ◌∙◌, ap, arith, subst, codes}
use Rattle.std.specs.Prelude.{Option, Some, None, IfSome, IfNone, option_map}
use Rattle.std.specs.List.{All, IsDistinct}
use Rattle.command_options.specs.Options.{AreNames, HasOptions, IsName}
use Rattle.study_command.specs.CommandLine.{AsksFor, AreValues}
use Rattle.study_command.specs.declared.words.Study.{Study}

abbrev pub names : List (List ℕ)
names = codes "process" ∷ codes "frames" ∷ []

each_named : All IsName names
each_named zero d lt = (omega arith, refl)
each_named (suc zero) d lt = (omega arith, refl)
each_named (suc (suc k)) d lt = absurd (omega (arith, lt))

pub are_names : AreNames names
unfolding IsDistinct
are_names = record { spelled = each_named; differ = ((refl, tt), (tt, tt)) }

same : {values others : List (List ℕ)} → Some values ≡ Some others → values ≡ others
same e = cc

other : {values : List (List ℕ)} → None ≡ Some values → ⊥
other e = cc

pub asked : (words values : List (List ℕ)) → HasOptions names values words → (found : Option Study) → IfSome found (AreValues values) → IfSome found (AsksFor words)
asked words values has None name = tt
asked words values has (Some study) name = record { values = values; options = has; name = name }

pub not_asked : (words values : List (List ℕ)) → ((others : List (List ℕ)) → HasOptions names others words → Some values ≡ Some others) → (found : Option Study)
    → IfNone found ((study : Study) → AreValues values study → ⊥) → IfNone found ((study : Study) → AsksFor words study → ⊥)
not_asked words values all (Some study) never = tt
not_asked words values all None never = λ study asks. never study (subst (λ l. AreValues l study) (sym (same (all asks.values asks.options))) asks.name)

pub none_asked : (words : List (List ℕ)) → ((others : List (List ℕ)) → HasOptions names others words → None ≡ Some others) → (study : Study) → AsksFor words study → ⊥
none_asked words all study asks = other (all asks.values asks.options)

-- the same of the values that were read of the words, by a list of names that is this one
module _ {V : Type 0} (values_of : V → List (List ℕ)) (list words : List (List ℕ)) (are : list ≡ names) (read : Option V) where
  pub not_asked_by : (v : V) → read ≡ Some v → ((others : List (List ℕ)) → HasOptions list others words → option_map values_of read ≡ Some others)
      → (values : List (List ℕ)) → values ≡ values_of v → (found : Option Study) → IfNone found ((study : Study) → AreValues values study → ⊥) → IfNone found ((study : Study) → AsksFor words study → ⊥)
  not_asked_by v is all values same_values found never =
      not_asked words values (λ others has. ap (λ (l : List (List ℕ)). Some l) same_values ∙ sym (ap (λ (o : Option V). option_map values_of o) is) ∙ all others (subst (λ l. HasOptions l others words) (sym are) has)) found never

  pub none_asked_by : read ≡ None → ((others : List (List ℕ)) → HasOptions list others words → option_map values_of read ≡ Some others) → (study : Study) → AsksFor words study → ⊥
  none_asked_by is all study asks =
      none_asked words (λ others has. sym (ap (λ (o : Option V). option_map values_of o) is) ∙ all others (subst (λ l. HasOptions l others words) (sym are) has)) study asks
