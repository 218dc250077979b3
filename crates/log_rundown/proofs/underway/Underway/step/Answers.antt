use Rattle.std.proofs.Common.{◌∙◌, Option, ap, sym}
use Rattle.std.specs.Option.{option_map}
use Rattle.log_laws.specs.Underway.{Underway as UnderwayIs, step}
use Rattle.log_rundown.specs.Standing.{standing_as}
use Rattle.log_rundown.specs.declared.standing.Standing.{Standing}
use Rattle.log_rundown.proofs.underway.Underway.step.Goals as goal

pub returns-in-Some-clause-ok : goal.returns-in-Some-clause-ok
returns-in-Some-clause-ok c =
    ap (λ (u : UnderwayIs). step c.args.past.now.config c.args.past.now.past u c.args.e) (sym c.self.view_is)
    ∙ (sym c.in_ok-next.ensures ∙ ap (λ (o : Option Standing). option_map standing_as o) c.in-Some.is)
