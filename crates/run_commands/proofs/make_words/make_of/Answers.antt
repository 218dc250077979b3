use Rattle.std.proofs.Common.{rules, ◌≡◌, ℕ, List, Bor, ap, subst, sym, map}
use Rattle.command_options.specs.Options.{AreNames}
use Rattle.run_commands.proofs.MakeOptions.{are_names, names, none_asked_by, not_asked_by}
use Rattle.run_commands.proofs.make_words.make_of.Goals as goal

pub option_values-requires : goal.option_values-requires
option_values-requires c =
    let are : map (λ name. name.now) c.as_slice.result.now ≡ names = search rules in
    subst AreNames (sym are) are_names

pub returns-in-Ok-Some-clause-none : goal.returns-in-Ok-Some-clause-none
returns-in-Ok-Some-clause-none c =
    let are : map (λ name. name.now) c.as_slice.result.now ≡ names = search rules in
    not_asked_by _ _ _ are _ _ c.in-Ok-Some.field-0-is c.in-Ok-Some.ensures.all _ (ap (map (λ (value : Bor (List ℕ)). value.now)) c.as_slice-in-Ok-Some.ensures.value) c.make_by.result c.make_by.ensures.none

pub returns-in-Ok-None-clause-none : goal.returns-in-Ok-None-clause-none
returns-in-Ok-None-clause-none c =
    let are : map (λ name. name.now) c.as_slice.result.now ≡ names = search rules in
    none_asked_by _ _ _ are _ c.in-Ok-None.field-0-is c.in-Ok-None.ensures.all
