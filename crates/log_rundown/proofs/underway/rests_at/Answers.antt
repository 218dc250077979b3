use Rattle.std.proofs.Common.{◌≡◌, ◌↔◌, ◌∙◌, Bool, IsTrue, false, ap, subst, sym}
use Rattle.std.proofs.lemmas.Bool.{false≢true}
use Rattle.pager_policy.specs.Moves.{Move, rests}
use Rattle.pager_model.specs.Pager.{Pager}
use Rattle.pager_policy.specs.Rundown.{cleaning_move}
use Rattle.log_laws.specs.Underway.{IsAtRest}
use Rattle.shadow_pager.specs.Shown.{shown}
use Rattle.log_rundown.specs.Chosen.{move_as}
use Rattle.log_rundown.specs.Standing.{cleaning_as, standing_as}
use Rattle.log_rundown.specs.declared.standing.Standing.{Standing}
use Rattle.log_rundown.proofs.Choices.{rests_if}
use Rattle.log_rundown.proofs.underway.rests_at.Goals as goal

pub returns-in-BetweenMoves : goal.returns-in-BetweenMoves
returns-in-BetweenMoves c =
    let config = c.args.past.now.config in
    let past = c.args.past.now.past in
    let a = (shown c.args.pager.now).pager in
    let move_is = c.choose-choice.ensures ∙ ap (λ (x : Pager). cleaning_move config past x (cleaning_as c.in-BetweenMoves.here)) c.requires.same in
    subst (λ (s : Standing). IsTrue c.is_rest.result ↔ IsAtRest config past (standing_as s)) (sym c.in-BetweenMoves.is)
    (subst (λ (m : Move). IsTrue c.is_rest.result ↔ (m ≡ rests)) move_is (subst (λ (b : Bool). IsTrue b ↔ (move_as config a c.choose-choice.result ≡ rests)) (sym c.is_rest.ensures) (rests_if config a c.choose-choice.result)))

pub returns-in-InOuts : goal.returns-in-InOuts
returns-in-InOuts c =
    subst (λ (s : Standing). IsTrue false ↔ IsAtRest c.args.past.now.config c.args.past.now.past (standing_as s)) (sym c.in-InOuts.is) (λ is. absurd (false≢true is), λ is. absurd is)

pub returns-in-InLandings : goal.returns-in-InLandings
returns-in-InLandings c =
    subst (λ (s : Standing). IsTrue false ↔ IsAtRest c.args.past.now.config c.args.past.now.past (standing_as s)) (sym c.in-InLandings.is) (λ is. absurd (false≢true is), λ is. absurd is)
