use Rattle.std.proofs.Common.{arith, refl}
use Rattle.seat_schedules.proofs.LandedWork.{landed_badly, landed_well}
use Rattle.seat_schedules.proofs.landing.land.Goals as goal

pub returns-then-not-landed : goal.returns-then-not-landed
returns-then-not-landed g c =
    let left = c.carry_and_land-landed.ensures in
    landed_well c.args.state.now c.args.seat c.args.worker.now c.requires.at_work c.carry_and_land-landed.new.state c.carry_and_land-landed.result left.landed left.same left.calm left.idle _ left.carrier refl

pub returns-else-not-landed : goal.returns-else-not-landed
returns-else-not-landed g c =
    let left = c.carry_and_land-landed.ensures in
    landed_badly c.args.state.now c.args.seat c.args.worker.now c.requires.at_work c.carry_and_land-landed.new.state c.carry_and_land-landed.result left.landed left.same left.calm left.idle _ left.carrier refl c.if-not-landed.false
    (let count = c.len.ensures.count in let some = c.if-len-eq0.false in omega (arith, count, some))
