use Rattle.std.specs.Prelude.{None}
use Rattle.serial_moves.specs.declared.control.Control.{Control}
use Rattle.serial_moves.specs.declared.control.Doing.TheVariants.{Asking}
use Rattle.serial_moves.proofs.LandedCarriers.{emptied, first_landed, first_legal, first_lost, landed_here, none_open, own_lifts, own_whole}
use Rattle.serial_moves.proofs.carrying.carry_reads.Goals as goal

abbrev again : Control
again = record { doing = Asking; leaving = None }

pub carry_and_land-landed-requires-clause-lifts : goal.carry_and_land-landed-requires-clause-lifts
carry_and_land-landed-requires-clause-lifts g c κs within = own_lifts c.args.state.now c.args.seat c.args.carrier.now c.requires.loaded

pub carry_and_land-landed-requires-clause-whole : goal.carry_and_land-landed-requires-clause-whole
carry_and_land-landed-requires-clause-whole g c κs within = own_whole c.args.state.now c.args.seat c.args.carrier.now c.requires.loaded

pub refuse-requires-clause-landed : goal.refuse-requires-clause-landed
refuse-requires-clause-landed g c κs within = none_open c.args.state.now c.args.seat c.args.carrier.now c.requires.loaded c.carry_and_land-landed.new.state.past c.carry_and_land-landed.ensures.others

pub refuse-requires-clause-legal : goal.refuse-requires-clause-legal
refuse-requires-clause-legal g c κs within =
    first_legal c.args.state.now c.carry_and_land-landed.new.state c.args.seat c.carry_and_land-landed.result
    (landed_here c.args.state.now c.args.seat c.args.carrier.now c.requires.loaded _ _ c.carry_and_land-landed.ensures.landed) c.carry_and_land-landed.ensures.same
    g.B.Block.tells.content again c.if-landed.true c.requires.may c.run_law.ensures.run

pub returns-then-landed-clause-carrier : goal.returns-then-landed-clause-carrier
returns-then-landed-clause-carrier g c = emptied c.args.state.now c.args.seat c.args.carrier.now c.requires.loaded _ c.carry_and_land-landed.ensures.carrier

pub returns-then-landed-clause-carried : goal.returns-then-landed-clause-carried
returns-then-landed-clause-carried g c =
    first_lost c.args.state.now c.carry_and_land-landed.new.state c.args.seat c.carry_and_land-landed.result
    (landed_here c.args.state.now c.args.seat c.args.carrier.now c.requires.loaded _ _ c.carry_and_land-landed.ensures.landed) c.carry_and_land-landed.ensures.same
    g.B.Block.tells.content again c.refuse.new.state c.refuse.result c.if-landed.true c.refuse.ensures.refused

pub returns-else-landed-clause-carrier : goal.returns-else-landed-clause-carrier
returns-else-landed-clause-carrier g c = emptied c.args.state.now c.args.seat c.args.carrier.now c.requires.loaded _ c.carry_and_land-landed.ensures.carrier

pub returns-else-landed-clause-carried : goal.returns-else-landed-clause-carried
returns-else-landed-clause-carried g c =
    first_landed c.args.state.now c.carry_and_land-landed.new.state c.args.seat c.carry_and_land-landed.result
    (landed_here c.args.state.now c.args.seat c.args.carrier.now c.requires.loaded _ _ c.carry_and_land-landed.ensures.landed) c.carry_and_land-landed.ensures.same
    g.B.Block.tells.content again c.if-landed.false
