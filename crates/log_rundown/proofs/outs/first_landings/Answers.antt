use Rattle.std.proofs.Common.{◌∙◌, List, true, ap}
use Rattle.pager_model.specs.Flights.{Flight}
use Rattle.log_laws.specs.Underway.{after_landings}
use Rattle.log_rundown.specs.Standing.{onward_as}
use Rattle.log_rundown.proofs.outs.first_landings.Goals as goal

pub returns : goal.returns
returns c = c.after_landings-at.ensures ∙ ap (λ (xs : List Flight). after_landings xs true (onward_as c.args.onward)) c.in_ok-flights.ensures
