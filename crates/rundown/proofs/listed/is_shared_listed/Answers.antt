use Rattle.std.proofs.Common.{◌∙◌, arith, sym}
use Rattle.vm_state.specs.History.{pager}
use Rattle.rundown.proofs.SharedListed.{frame_there, from_head, listed_within, none_here, none_left, one_further, shared_found}
use Rattle.rundown.proofs.listed.is_shared_listed.Goals as goal

pub loop-init : goal.loop-init
loop-init g c = from_head (pager c.args.state.now) c.head-at.result c.head-at.ensures

pub holds_shared-requires-after_bounds : goal.holds_shared-requires-after_bounds
holds_shared-requires-after_bounds g c κs within =
    listed_within c.args.state.now.config c.args.state.now.past c.loop.counter (c.in-Some.f).0 c.run_law.ensures.formed c.run_law.ensures.run
    (frame_there (pager c.args.state.now) c.loop.counter c.loop.at c.in-Some.f c.loop.invariant c.in-Some.is)

pub returns-then-holds_shared : goal.returns-then-holds_shared
returns-then-holds_shared g c =
    shared_found (pager c.args.state.now) c.loop.counter c.loop.at c.in-Some.f c.loop.invariant c.in-Some.is (sym c.holds_shared.ensures ∙ c.if-holds_shared.true)

pub loop-preserved : goal.loop-preserved
loop-preserved g c =
    one_further (pager c.args.state.now) c.loop.counter c.loop.at c.in-Some.f c.loop.invariant c.in-Some.is c.next-at.result (sym c.holds_shared.ensures ∙ c.if-holds_shared.false) c.next-at.ensures

pub returns-in-None : goal.returns-in-None
returns-in-None g c = none_here (pager c.args.state.now) c.loop.counter c.loop.at c.loop.invariant c.in-None.is

pub returns : goal.returns
returns g c = none_left (pager c.args.state.now) c.loop.counter c.loop.at c.loop.invariant (let least = c.loop-test.false in let count = c.modified_len-end.ensures in omega (arith, least, count))
