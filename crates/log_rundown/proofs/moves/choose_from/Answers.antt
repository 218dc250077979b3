use Rattle.std.proofs.Common.{◌∙◌, ap}
use Rattle.vm_types.specs.declared.config.Config.{Config}
use Rattle.pager_policy.specs.Rundown.{later_move, place_move, shared_place}
use Rattle.shadow_pager.specs.Shown.{shown}
use Rattle.log_rundown.proofs.moves.choose_from.Goals as goal

pub returns-in-Some : goal.returns-in-Some
returns-in-Some c =
    let a = (shown c.args.pager.now).pager in
    let config = c.args.past.now.config in
    let past = c.args.past.now.past in
    c.choose_on.ensures
    ∙ ap (place_move config past a c.args.failed (later_move config past a)) (c.in-Some.ensures.place ∙ ap (λ (x : Config). shared_place x a (c.args.p).0 c.args.n) c.config-config.ensures)

pub returns-in-None : goal.returns-in-None
returns-in-None c =
    let a = (shown c.args.pager.now).pager in
    let config = c.args.past.now.config in
    let past = c.args.past.now.past in
    c.choose_round.ensures config
    ∙ ap (place_move config past a c.args.failed (later_move config past a)) (c.in-None.ensures.place ∙ ap (λ (x : Config). shared_place x a (c.args.p).0 c.args.n) c.config-config.ensures)
