use Rattle.std.proofs.Common.{◌∙◌, arith, sym}
use Rattle.shadow_pager.specs.Shown.{shown}
use Rattle.log_rundown.proofs.SharedPlaces.{found_of, none_behind, none_of}
use Rattle.log_rundown.proofs.places.shared_of_processes.Goals as goal

pub returns-in-Some-clause-place : goal.returns-in-Some-clause-place
returns-in-Some-clause-place c =
    sym (c.loop-q.invariant
    ∙ found_of (shown c.args.pager.now).pager c.args.count c.loop-q.q c.in-Some.slot (let test = c.loop-q-test.true in omega (arith, test)) c.in-Some.ensures.first)

pub returns-in-Some-clause-small : goal.returns-in-Some-clause-small
returns-in-Some-clause-small c = c.in-Some.ensures.few

pub loop-q-preserved : goal.loop-q-preserved
loop-q-preserved c =
    c.loop-q.invariant
    ∙ none_of (shown c.args.pager.now).pager c.args.count c.loop-q.q (let test = c.loop-q-test.true in omega (arith, test)) c.in_default.ensures.first

pub returns-clause-place : goal.returns-clause-place
returns-clause-place c =
    sym (c.loop-q.invariant
    ∙ none_behind (shown c.args.pager.now).pager c.args.count c.loop-q.q (let test = c.loop-q-test.false in omega (arith, test)))
