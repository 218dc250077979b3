use Rattle.std.proofs.Common.{ap, ◌∙◌}
use Rattle.vm_types.specs.declared.names.Seat.{Seat}
use Rattle.call_begins.specs.MayBegin.{empty}
use Rattle.rundown.proofs.WrittenOnce.{landed_so, own_lifts, own_whole}
use Rattle.rundown.proofs.clusters.land_writes.Goals as goal

pub carry_and_land-landed-requires-clause-calm : goal.carry_and_land-landed-requires-clause-calm
carry_and_land-landed-requires-clause-calm g c κs within = c.requires.calm

pub carry_and_land-landed-requires-clause-lifts : goal.carry_and_land-landed-requires-clause-lifts
carry_and_land-landed-requires-clause-lifts g c κs within = own_lifts c.args.state.now c.args.seat c.args.carrier.now c.requires

pub carry_and_land-landed-requires-clause-whole : goal.carry_and_land-landed-requires-clause-whole
carry_and_land-landed-requires-clause-whole g c κs within = own_whole c.args.state.now c.args.seat c.args.carrier.now c.requires

pub returns-clause-carrier : goal.returns-clause-carrier
returns-clause-carrier g c = c.carry_and_land-landed.ensures.carrier ∙ ap (λ (x : Seat). empty x) c.requires.lifts.own

pub returns-clause-landed : goal.returns-clause-landed
returns-clause-landed g c =
    landed_so c.args.state.now c.carry_and_land-landed.new.state c.args.seat (c.args.carrier.now).seat c.carry_and_land-landed.result g.B.Block.tells.content c.requires.lifts.own
    c.carry_and_land-landed.ensures.landed c.carry_and_land-landed.ensures.same
