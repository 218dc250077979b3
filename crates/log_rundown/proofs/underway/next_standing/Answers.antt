use Rattle.std.proofs.Common.{◌∙◌, List, ap, sym}
use Rattle.pager_model.specs.Flights.{Flight}
use Rattle.pager_policy.specs.Moves.{Move}
use Rattle.pager_model.specs.Pager.{Pager}
use Rattle.pager_policy.specs.Rundown.{cleaning_move}
use Rattle.log_laws.specs.Underway.{plan_of, step, step_landings, step_outs, step_plan}
use Rattle.log_rundown.specs.Standing.{cleaning_as, onward_as, standing_as}
use Rattle.log_rundown.specs.Written.{writes_as}
use Rattle.log_rundown.specs.declared.standing.Standing.{Standing}
use Rattle.log_rundown.specs.declared.write.Write.{Write}
use Rattle.log_rundown.proofs.underway.next_standing.Goals as goal

pub returns-in_ok-moved-in-BetweenMoves : goal.returns-in_ok-moved-in-BetweenMoves
returns-in_ok-moved-in-BetweenMoves c =
    let config = c.args.past.now.config in
    let past = c.args.past.now.past in
    c.in_ok-moved-in-BetweenMoves.ensures
    ∙ (ap (λ (m : Move). step_plan config past (plan_of m) c.args.e) (c.choose-choice.ensures ∙ ap (λ (a : Pager). cleaning_move config past a (cleaning_as c.in-BetweenMoves.here)) c.requires.same)
    ∙ sym (ap (λ (s : Standing). step config past (standing_as s) c.args.e) c.in-BetweenMoves.is))

pub returns-in_ok-begun-in-InOuts : goal.returns-in_ok-begun-in-InOuts
returns-in_ok-begun-in-InOuts c =
    let config = c.args.past.now.config in
    let past = c.args.past.now.past in
    c.in_ok-begun-in-InOuts.ensures
    ∙ (ap (λ (ws : List Write). step_outs config past (writes_as ws) (onward_as c.in-InOuts.onward) c.args.e) c.deref.ensures.value
    ∙ sym (ap (λ (s : Standing). step config past (standing_as s) c.args.e) c.in-InOuts.is))

pub returns-in_ok-landed-in-InLandings : goal.returns-in_ok-landed-in-InLandings
returns-in_ok-landed-in-InLandings c =
    let config = c.args.past.now.config in
    let past = c.args.past.now.past in
    c.in_ok-landed-in-InLandings.ensures
    ∙ (ap (λ (xs : List Flight). step_landings config past xs c.in-InLandings.all (onward_as c.in-InLandings.onward) c.args.e) c.deref-in-InLandings.ensures.value
    ∙ sym (ap (λ (s : Standing). step config past (standing_as s) c.args.e) c.in-InLandings.is))
