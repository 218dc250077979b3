use Rattle.vm_state.specs.History.{pager}
use Rattle.vm_swapper.specs.Runs.{wanted_at}
use Rattle.vm_swapper.proofs.Gathered.{one_gathered}
use Rattle.vm_swapper.proofs.runs.gathered.Goals as goal

pub loop-n-preserved : goal.loop-n-preserved
loop-n-preserved g c =
    one_gathered (wanted_at c.args.state.now.config c.args.state.now.past (pager c.args.state.now) ((c.args.run).p).0 c.args.wanted) (c.args.run).slot c.args.most c.loop-n.items.items c.push.new.self.items c.loop-n.n c.in-Some.item c.loop-n-test.true c.loop-n.invariant c.in-Some.ensures c.push.ensures.items
