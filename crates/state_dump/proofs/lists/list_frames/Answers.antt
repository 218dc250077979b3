use Rattle.std.proofs.Common.{arith}
use Rattle.vm_state.specs.History.{pager}
use Rattle.vm_state.specs.Readings.{listed}
use Rattle.state_dump.proofs.Walks.{all_taken, from_head, none_left, one_further}
use Rattle.state_dump.proofs.lists.list_frames.Goals as goal

pub loop-init : goal.loop-init
loop-init g c = from_head (listed (pager c.args.state.now) c.args.name) _ c.head-at.result c.in_ok-frames.ensures.items c.head-at.ensures

pub loop-preserved : goal.loop-preserved
loop-preserved g c =
    one_further (pager c.args.state.now) c.args.name c.loop.counter c.loop.frames.items _ c.loop.at c.next-at.result c.in-Some.f c.loop.invariant c.in-Some.is c.in_ok-push-in-Some.ensures.items c.next-at.ensures

pub returns-in-None : goal.returns-in-None
returns-in-None g c = none_left (listed (pager c.args.state.now) c.args.name) c.loop.frames.items c.loop.counter c.loop.at c.loop.invariant c.in-None.is

pub returns : goal.returns
returns g c =
    all_taken (listed (pager c.args.state.now) c.args.name) c.loop.frames.items c.loop.counter c.loop.at c.loop.invariant
    (let least = c.loop-test.false in let count = c.list_len-count.ensures in omega (arith, least, count))
