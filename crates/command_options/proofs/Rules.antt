-- The rule of an option that has to be given and takes a value, and where a walk finds it.
use Rattle.std.proofs.Common.{◌≡◌, ℕ, Bool, cond, true, false, refl, ap, List, [], ◌∷◌, map, Some, None}
use Rattle.std.specs.List.{list_all, list_any}
use Rattle.std.specs.Str.{bytes_eq}
use Rattle.std.proofs.lemmas.Slice.Eq.{bytes_eq-Decides}
use Rattle.clap.specs.Walk.{Rule, Text, arg_by_id, arg_by_index, arg_by_long, arg_by_short, is_early_multiple}
use Rattle.clap.specs.Simple.{filled_from}
use Rattle.clap.specs.declared.builder.value_parser.ValueParser.TheVariants as vp
use Rattle.command_options.specs.Apps.{option_rule}

-- the rule as building leaves it
abbrev pub read_rule : Text → Rule
read_rule name = record (option_rule name) {
  parser = Some vp.String;
  range = Some (record { start_inclusive = 1; end_inclusive = 1 });
}

pub filled_rules : (names : List Text) (i : ℕ) → filled_from i (map option_rule names) ≡ map read_rule names
filled_rules [] i = refl
filled_rules (name ∷ names) i = ap (λ rules. read_rule name ∷ rules) (filled_rules names i)

-- the name is one of these
abbrev pub known : List Text → Text → Bool
known names name = list_any (λ n. bytes_eq n name) names

pub same_text : (a b : Text) → bytes_eq a b ≡ true → a ≡ b
same_text a b e = (bytes_eq-Decides a b).0 e

pub own_text : (a : Text) → bytes_eq a a ≡ true
own_text a = (bytes_eq-Decides a a).1 refl

pub found_long : (names : List Text) (name : Text) → arg_by_long (map read_rule names) name ≡ cond (known names name) (Some (read_rule name)) None
found_long [] name = refl
found_long (n ∷ names) name = go (bytes_eq n name) refl (found_long names name)
  where
    go : (b : Bool) → bytes_eq n name ≡ b → arg_by_long (map read_rule names) name ≡ cond (known names name) (Some (read_rule name)) None
        → arg_by_long (map read_rule (n ∷ names)) name ≡ cond (known (n ∷ names) name) (Some (read_rule name)) None
    go true e rest = rw e (ap (λ x. Some (read_rule x)) (same_text n name e))
    go false e rest = rw e rest

pub found_id : (names : List Text) (name : Text) → arg_by_id (map read_rule names) name ≡ cond (known names name) (Some (read_rule name)) None
found_id [] name = refl
found_id (n ∷ names) name = go (bytes_eq n name) refl (found_id names name)
  where
    go : (b : Bool) → bytes_eq n name ≡ b → arg_by_id (map read_rule names) name ≡ cond (known names name) (Some (read_rule name)) None
        → arg_by_id (map read_rule (n ∷ names)) name ≡ cond (known (n ∷ names) name) (Some (read_rule name)) None
    go true e rest = rw e (ap (λ x. Some (read_rule x)) (same_text n name e))
    go false e rest = rw e rest

pub found_short : (names : List Text) (x : ℕ) → arg_by_short (map read_rule names) x ≡ None
found_short [] x = refl
found_short (n ∷ names) x = found_short names x

pub found_place : (names : List Text) (i : ℕ) → arg_by_index (map read_rule names) i ≡ None
found_place [] i = refl
found_place (n ∷ names) i = found_place names i

pub simple_options : (names : List Text) → list_all (λ a. a.is_simple) (map option_rule names) ≡ true
simple_options [] = refl
simple_options (n ∷ names) = simple_options names

pub simple_rules : (names : List Text) → list_all (λ a. a.is_simple) (map read_rule names) ≡ true
simple_rules [] = refl
simple_rules (n ∷ names) = simple_rules names

pub free_rules : (names : List Text) → list_all (λ a. a.is_free) (map read_rule names) ≡ true
free_rules [] = refl
free_rules (n ∷ names) = free_rules names

pub no_early : (names : List Text) (n : ℕ) → list_any (is_early_multiple n) (map read_rule names) ≡ false
no_early [] n = refl
no_early (name ∷ names) n = no_early names n
