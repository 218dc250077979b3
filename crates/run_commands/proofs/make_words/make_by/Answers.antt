use Rattle.std.proofs.Common.{rules, arith, ◌≡◌, [], ◌∷◌, IfNone, map, subst}
use Rattle.std.proofs.lemmas.Grind.{common_steps}
use Rattle.run_commands.specs.declared.make.Make.{Make}
use Rattle.run_commands.specs.MakeLine.{AreNumbers}
use Rattle.run_commands.proofs.make_words.make_by.Goals as goal

pub returns-in-len3-clause-none : goal.returns-in-len3-clause-none
returns-in-len3-clause-none c =
    let same : c.as_bytes.result.now ∷ c.as_bytes-in-len3.result.now ∷ c.as_bytes-in-len3-2.result.now ∷ [] ≡ map (λ value. value.now) c.args.values.now = first_of (search rules, grind (arith, common_steps)) in
    subst (λ l. IfNone c.make_from.result ((make : Make) → AreNumbers l make → ⊥)) same c.make_from.ensures.none
