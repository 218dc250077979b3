use Rattle.std.proofs.Common.{◌∙◌, arith, length, sym}
use Rattle.vm_state.specs.History.{pager}
use Rattle.rundown.proofs.SharedPlaces.{found_of, none_behind, none_of, place_there}
use Rattle.rundown.proofs.places.shared_of_processes.Goals as goal

pub returns-in-Some-clause-place : goal.returns-in-Some-clause-place
returns-in-Some-clause-place g c =
    sym (c.loop-q.invariant
    ∙ found_of (pager c.args.state.now) (length c.args.state.now.config.procs) c.loop-q.q c.in-Some.slot
    (let test = c.loop-q-test.true in let count = c.processes-q-end.ensures in omega (arith, test, count)) c.in-Some.ensures.first)

pub returns-in-Some-clause-there : goal.returns-in-Some-clause-there
returns-in-Some-clause-there g c =
    place_there c.args.state.now (record { 0 = c.loop-q.q }) 0 c.in-Some.slot (let test = c.loop-q-test.true in let count = c.processes-q-end.ensures in omega (arith, test, count)) c.in-Some.ensures.few c.in-Some.ensures.first

pub loop-q-preserved : goal.loop-q-preserved
loop-q-preserved g c =
    c.loop-q.invariant
    ∙ none_of (pager c.args.state.now) (length c.args.state.now.config.procs) c.loop-q.q (let test = c.loop-q-test.true in let count = c.processes-q-end.ensures in omega (arith, test, count)) c.in-None.ensures.first

pub returns-clause-place : goal.returns-clause-place
returns-clause-place g c =
    sym (c.loop-q.invariant
    ∙ none_behind (pager c.args.state.now) (length c.args.state.now.config.procs) c.loop-q.q (let test = c.loop-q-test.false in let count = c.processes-q-end.ensures in omega (arith, test, count)))
