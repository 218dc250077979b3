use Rattle.std.proofs.Common.{inl, inr, arith}
use Rattle.vm_state.specs.Based.{base_of}
use Rattle.carried_landings.proofs.CarriedOut.{own_out}
use Rattle.seat_turns.proofs.Joined.{emptied, has_some, landed_out, was_lost}
use Rattle.seat_turns.proofs.landing.land_out.Goals as goal

pub land_carried-landed-requires-clause-out : goal.land_carried-landed-requires-clause-out
land_carried-landed-requires-clause-out g c κs within = own_out (base_of c.args.state.now) (c.args.state.now).past c.args._seat c.args.carrier.now c.requires.out

pub returns-then-count-eq0-clause-landed : goal.returns-then-count-eq0-clause-landed
returns-then-count-eq0-clause-landed g c =
    landed_out c.args.state.now c.land_carried-landed.new.state c.args._seat (c.args.carrier.now).seat c.land_carried-landed.result c.requires.out.own c.land_carried-landed.ensures.landed c.land_carried-landed.ensures.same c.land_carried-landed.ensures.calm c.land_carried-landed.ensures.idle

pub returns-then-count-eq0-clause-carrier : goal.returns-then-count-eq0-clause-carrier
returns-then-count-eq0-clause-carrier g c = emptied c.args._seat c.args.carrier.now c.land_carried-landed.new.carrier c.requires.out.own c.land_carried-landed.ensures.carrier

pub returns-then-landed-clause-landed : goal.returns-then-landed-clause-landed
returns-then-landed-clause-landed g c =
    landed_out c.args.state.now c.land_carried-landed.new.state c.args._seat (c.args.carrier.now).seat c.land_carried-landed.result c.requires.out.own c.land_carried-landed.ensures.landed c.land_carried-landed.ensures.same c.land_carried-landed.ensures.calm c.land_carried-landed.ensures.idle

pub returns-then-landed-clause-carrier : goal.returns-then-landed-clause-carrier
returns-then-landed-clause-carrier g c = emptied c.args._seat c.args.carrier.now c.land_carried-landed.new.carrier c.requires.out.own c.land_carried-landed.ensures.carrier

pub returns-then-reading-clause-landed : goal.returns-then-reading-clause-landed
returns-then-reading-clause-landed g c =
    landed_out c.args.state.now c.land_carried-landed.new.state c.args._seat (c.args.carrier.now).seat c.land_carried-landed.result c.requires.out.own c.land_carried-landed.ensures.landed c.land_carried-landed.ensures.same c.land_carried-landed.ensures.calm c.land_carried-landed.ensures.idle

pub returns-then-reading-clause-carrier : goal.returns-then-reading-clause-carrier
returns-then-reading-clause-carrier g c = emptied c.args._seat c.args.carrier.now c.land_carried-landed.new.carrier c.requires.out.own c.land_carried-landed.ensures.carrier

pub returns-clause-landed : goal.returns-clause-landed
returns-clause-landed g c =
    landed_out c.args.state.now c.land_carried-landed.new.state c.args._seat (c.args.carrier.now).seat c.land_carried-landed.result c.requires.out.own c.land_carried-landed.ensures.landed c.land_carried-landed.ensures.same c.land_carried-landed.ensures.calm c.land_carried-landed.ensures.idle

pub returns-clause-carrier : goal.returns-clause-carrier
returns-clause-carrier g c = emptied c.args._seat c.args.carrier.now c.land_carried-landed.new.carrier c.requires.out.own c.land_carried-landed.ensures.carrier

pub returns-then-landed-clause-lost : goal.returns-then-landed-clause-lost
returns-then-landed-clause-lost g c = λ is.
    (was_lost c.args.state.now c.land_carried-landed.new.state c.args._seat (c.args.carrier.now).seat c.land_carried-landed.result c.args.reading c.requires.out.own c.land_carried-landed.ensures.landed (inl c.if-landed.true), has_some c.args.carrier.now c.len-count.result c.len-count.ensures.count (let some = c.if-count-eq0.false in omega (arith, some)))

pub returns-then-reading-clause-lost : goal.returns-then-reading-clause-lost
returns-then-reading-clause-lost g c = λ is.
    (was_lost c.args.state.now c.land_carried-landed.new.state c.args._seat (c.args.carrier.now).seat c.land_carried-landed.result c.args.reading c.requires.out.own c.land_carried-landed.ensures.landed (inr (c.if-reading.true, is)), has_some c.args.carrier.now c.len-count.result c.len-count.ensures.count (let some = c.if-count-eq0.false in omega (arith, some)))
