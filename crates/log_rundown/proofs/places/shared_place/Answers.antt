use Rattle.std.proofs.Common.{arith}
use Rattle.shadow_pager.specs.Shown.{shown}
use Rattle.log_rundown.proofs.SharedPlaces.{later_found, none_absent, place_found}
use Rattle.log_rundown.proofs.places.shared_place.Goals as goal

pub returns-in-Some-clause-place : goal.returns-in-Some-clause-place
returns-in-Some-clause-place c = place_found c.args.config.now (shown c.args.pager.now).pager (c.args.p).0 c.args.n c.in-Some.slot c.in-Some.ensures.first

pub returns-in-Some-clause-small : goal.returns-in-Some-clause-small
returns-in-Some-clause-small c = c.in-Some.ensures.few

pub returns-then-p-count-clause-place : goal.returns-then-p-count-clause-place
returns-then-p-count-clause-place c =
    none_absent c.args.config.now (shown c.args.pager.now).pager (c.args.p).0 c.args.n c.in_default.ensures.first (let least = c.if-p-count.true in let count = c.processes-count.ensures in omega (arith, least, count))

pub returns-clause-place : goal.returns-clause-place
returns-clause-place c = later_found c.args.config.now (shown c.args.pager.now).pager (c.args.p).0 c.args.n _ c.in_default.ensures.first c.processes-count.result c.processes-count.ensures c.shared_of_processes.ensures.place
