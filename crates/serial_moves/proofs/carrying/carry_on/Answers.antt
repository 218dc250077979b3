use Rattle.std.proofs.Common.{ap, sym, ◌∙◌}
use Rattle.pager_policy.specs.Moves.{asking, control}
use Rattle.pager_policy.specs.Policy.{ends_part}
use Rattle.serial_moves.specs.Controls.{control_in, ends_in}
use Rattle.serial_moves.proofs.LandedCarriers.{emptied, landed_here, none_open, own_lifts, own_whole, part_failed, request_failed, request_legal, some_landed}
use Rattle.serial_moves.proofs.carrying.carry_on.Goals as goal

pub carry_and_land-landed-requires-clause-lifts : goal.carry_and_land-landed-requires-clause-lifts
carry_and_land-landed-requires-clause-lifts g c κs within = own_lifts c.args.state.now c.args.seat c.args.carrier.now c.requires.loaded

pub carry_and_land-landed-requires-clause-whole : goal.carry_and_land-landed-requires-clause-whole
carry_and_land-landed-requires-clause-whole g c κs within = own_whole c.args.state.now c.args.seat c.args.carrier.now c.requires.loaded

pub refuse-requires-clause-landed : goal.refuse-requires-clause-landed
refuse-requires-clause-landed g c κs within = none_open c.args.state.now c.args.seat c.args.carrier.now c.requires.loaded c.carry_and_land-landed.new.state.past c.carry_and_land-landed.ensures.others

pub refuse-requires-clause-legal : goal.refuse-requires-clause-legal
refuse-requires-clause-legal g c κs within =
    request_legal c.args.state.now c.carry_and_land-landed.new.state c.args.seat c.carry_and_land-landed.result
    (landed_here c.args.state.now c.args.seat c.args.carrier.now c.requires.loaded _ _ c.carry_and_land-landed.ensures.landed) c.carry_and_land-landed.ensures.same
    g.B.Block.tells.content c.args.next (ap ends_in c.in-Asking.is) c.if-landed.true c.requires.may c.run_law.ensures.run

pub returns-in-Asking-clause-carrier : goal.returns-in-Asking-clause-carrier
returns-in-Asking-clause-carrier g c = emptied c.args.state.now c.args.seat c.args.carrier.now c.requires.loaded _ c.carry_and_land-landed.ensures.carrier

pub returns-in-Asking-clause-carried : goal.returns-in-Asking-clause-carried
returns-in-Asking-clause-carried g c =
    request_failed c.args.state.now c.carry_and_land-landed.new.state c.args.seat c.carry_and_land-landed.result
    (landed_here c.args.state.now c.args.seat c.args.carrier.now c.requires.loaded _ _ c.carry_and_land-landed.ensures.landed) c.carry_and_land-landed.ensures.same
    g.B.Block.tells.content c.args.next c.refuse.new.state c.refuse.result (ap ends_in c.in-Asking.is) c.if-landed.true c.refuse.ensures.refused

pub returns-in-Saving-clause-carrier : goal.returns-in-Saving-clause-carrier
returns-in-Saving-clause-carrier g c = emptied c.args.state.now c.args.seat c.args.carrier.now c.requires.loaded _ c.carry_and_land-landed.ensures.carrier

pub returns-in-Saving-clause-carried : goal.returns-in-Saving-clause-carried
returns-in-Saving-clause-carried g c =
    part_failed c.args.state.now c.carry_and_land-landed.new.state c.args.seat c.carry_and_land-landed.result
    (landed_here c.args.state.now c.args.seat c.args.carrier.now c.requires.loaded _ _ c.carry_and_land-landed.ensures.landed) c.carry_and_land-landed.ensures.same
    g.B.Block.tells.content c.args.next (control_in c.saved.result) (ap ends_in c.in-Saving.is ∙ ap ends_part (sym c.saved.ensures)) c.if-landed.true

pub returns-in-Freeing-clause-carrier : goal.returns-in-Freeing-clause-carrier
returns-in-Freeing-clause-carrier g c = emptied c.args.state.now c.args.seat c.args.carrier.now c.requires.loaded _ c.carry_and_land-landed.ensures.carrier

pub returns-in-Freeing-clause-carried : goal.returns-in-Freeing-clause-carried
returns-in-Freeing-clause-carried g c =
    part_failed c.args.state.now c.carry_and_land-landed.new.state c.args.seat c.carry_and_land-landed.result
    (landed_here c.args.state.now c.args.seat c.args.carrier.now c.requires.loaded _ _ c.carry_and_land-landed.ensures.landed) c.carry_and_land-landed.ensures.same
    g.B.Block.tells.content c.args.next (control asking) (ap ends_in c.in-Freeing.is) c.if-landed.true

pub returns-else-landed-clause-carrier : goal.returns-else-landed-clause-carrier
returns-else-landed-clause-carrier g c = emptied c.args.state.now c.args.seat c.args.carrier.now c.requires.loaded _ c.carry_and_land-landed.ensures.carrier

pub returns-else-landed-clause-carried : goal.returns-else-landed-clause-carried
returns-else-landed-clause-carried g c =
    some_landed c.args.state.now c.carry_and_land-landed.new.state c.args.seat c.carry_and_land-landed.result
    (landed_here c.args.state.now c.args.seat c.args.carrier.now c.requires.loaded _ _ c.carry_and_land-landed.ensures.landed) c.carry_and_land-landed.ensures.same
    g.B.Block.tells.content c.args.next c.if-landed.false
