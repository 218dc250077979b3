use Rattle.std.proofs.Common.{refl}
use Rattle.carried_landings.proofs.WholeCarriers.{carrier_may, have_landed, idle, others, same, spare}
use Rattle.carried_landings.proofs.landing.land_carried.Goals as goal

pub land-landed-requires-after_bounds : goal.land-landed-requires-after_bounds
land-landed-requires-after_bounds g c κs within =
    carrier_may c.args.state.now c.args.carrier.now c.requires.out c.run_law.ensures.formed c.run_law.ensures.run c.requires.calm c.requires.carried

pub returns-clause-landed : goal.returns-clause-landed
returns-clause-landed g c =
    have_landed c.args.state.now c.args.carrier.now c.requires.out c.run_law.ensures.formed c.run_law.ensures.run
    c.land-landed.new.self c.land-landed.ensures.state c.run_law-2.ensures.run
    c.land-landed.result c.land-landed.ensures.numbers _ refl refl

pub returns-clause-same : goal.returns-clause-same
returns-clause-same g c =
    same c.args.state.now c.args.carrier.now c.requires.out c.run_law.ensures.formed c.run_law.ensures.run
    c.land-landed.new.self c.land-landed.ensures.state c.run_law-2.ensures.run

pub returns-clause-spare : goal.returns-clause-spare
returns-clause-spare g c =
    spare c.args.state.now c.args.carrier.now c.requires.out c.run_law.ensures.formed c.run_law.ensures.run
    c.land-landed.new.self c.land-landed.ensures.state c.run_law-2.ensures.run
    c.run_law.ensures.paid

pub returns-clause-others : goal.returns-clause-others
returns-clause-others g c =
    others c.args.state.now c.args.carrier.now c.requires.out c.run_law.ensures.formed c.run_law.ensures.run
    c.land-landed.new.self c.land-landed.ensures.state c.run_law-2.ensures.run

pub returns-clause-idle : goal.returns-clause-idle
returns-clause-idle g c =
    idle c.args.state.now c.args.carrier.now c.requires.out c.run_law.ensures.formed c.run_law.ensures.run
    c.land-landed.new.self c.land-landed.ensures.state c.run_law-2.ensures.run
