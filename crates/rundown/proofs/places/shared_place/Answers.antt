use Rattle.std.proofs.Common.{arith}
use Rattle.vm_state.specs.History.{pager}
use Rattle.rundown.proofs.SharedPlaces.{later_found, none_absent, place_found, place_there}
use Rattle.rundown.proofs.places.shared_place.Goals as goal

pub returns-then-p-count-clause-place : goal.returns-then-p-count-clause-place
returns-then-p-count-clause-place g c =
    none_absent c.args.state.now.config c.args.state.now.past (c.args.p).0 c.args.n c.run_law.ensures.formed c.run_law.ensures.run (let least = c.if-p-count.true in let count = c.processes-count.ensures in omega (arith, least, count))

pub returns-in-Some-clause-place : goal.returns-in-Some-clause-place
returns-in-Some-clause-place g c = place_found c.args.state.now.config (pager c.args.state.now) (c.args.p).0 c.args.n c.in-Some.slot c.in-Some.ensures.first

pub returns-in-Some-clause-there : goal.returns-in-Some-clause-there
returns-in-Some-clause-there g c =
    place_there c.args.state.now c.args.p c.args.n c.in-Some.slot (let less = c.if-p-count.false in let count = c.processes-count.ensures in omega (arith, less, count)) c.in-Some.ensures.few c.in-Some.ensures.first

pub returns-in-None-clause-place : goal.returns-in-None-clause-place
returns-in-None-clause-place g c = later_found c.args.state.now.config (pager c.args.state.now) (c.args.p).0 c.args.n _ c.in-None.ensures.first c.shared_of_processes.ensures.place
