use Rattle.std.proofs.Common.{◌∙◌, Bool, List, Some, ap, sym}
use Rattle.pager_model.specs.Flights.{Flight}
use Rattle.log_laws.specs.Underway.{Underway as UnderwayIs, after_landings, step_landings}
use Rattle.log_rundown.specs.Standing.{onward_as}
use Rattle.log_rundown.proofs.Leads.{lands_none, lands_not, lands_so}
use Rattle.log_rundown.proofs.landings.step_landings.Goals as goal

pub returns-in_default : goal.returns-in_default
returns-in_default c = lands_none c.args.past.now.config c.args.past.now.past c.args.all (onward_as c.args.onward) c.args.e c.args.flights.now c.in_default.ensures.cases

pub returns-in_default-landed_as : goal.returns-in_default-landed_as
returns-in_default-landed_as c =
    lands_not c.args.past.now.config c.args.past.now.past c.args.all (onward_as c.args.onward) c.args.e c.in-Some.first.now c.in-Some.rest.now c.in_default-landed_as.ensures
    ∙ ap (λ (xs : List Flight). step_landings c.args.past.now.config c.args.past.now.past xs c.args.all (onward_as c.args.onward) c.args.e) (sym c.in-Some.ensures.cases.0)

pub returns : goal.returns
returns c =
    let onward = onward_as c.args.onward in
    ap (λ (u : UnderwayIs). Some u)
    (c.after_landings-at.ensures
    ∙ (ap (λ (xs : List Flight). after_landings xs c.both-every.result onward) c.in_ok-left.ensures
    ∙ ap (λ (b : Bool). after_landings c.in-Some.rest.now b onward) c.both-every.ensures))
    ∙ (lands_so c.args.past.now.config c.args.past.now.past c.args.all onward c.args.e c.in-Some.first.now c.in-Some.rest.now c.in-Some-landed_as.failed c.in-Some-landed_as.ensures
    ∙ ap (λ (xs : List Flight). step_landings c.args.past.now.config c.args.past.now.past xs c.args.all onward c.args.e) (sym c.in-Some.ensures.cases.0))
