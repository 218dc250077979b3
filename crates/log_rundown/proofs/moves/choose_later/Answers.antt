use Rattle.std.proofs.Common.{◌+◌, ◌∙◌, ap, false}
use Rattle.vm_types.specs.declared.config.Config.{Config}
use Rattle.pager_policy.specs.Moves.{rests}
use Rattle.pager_policy.specs.Rundown.{Place as PlaceIs, place_move, shared_place}
use Rattle.shadow_pager.specs.Shown.{shown}
use Rattle.log_rundown.proofs.moves.choose_later.Goals as goal

pub returns-in-Some : goal.returns-in-Some
returns-in-Some c =
    let a = (shown c.args.pager.now).pager in
    let config = c.args.past.now.config in
    c.or_rest.ensures config a
    ∙ (c.choose_at-choice.ensures rests
    ∙ ap (place_move config c.args.past.now.past a false (λ (next : PlaceIs). rests))
    (c.in-Some.ensures.place ∙ ap (λ (x : Config). shared_place x a ((c.args.at).process).0 ((c.args.at).slot + 1)) c.config-config.ensures))

pub returns-in-None : goal.returns-in-None
returns-in-None c =
    let a = (shown c.args.pager.now).pager in
    let config = c.args.past.now.config in
    c.choose_round.ensures config
    ∙ ap (place_move config c.args.past.now.past a false (λ (next : PlaceIs). rests))
    (c.in-None.ensures.place ∙ ap (λ (x : Config). shared_place x a ((c.args.at).process).0 ((c.args.at).slot + 1)) c.config-config.ensures)
