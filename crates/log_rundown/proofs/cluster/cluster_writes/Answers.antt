use Rattle.shadow_pager.specs.Shown.{shown}
use Rattle.log_rundown.proofs.Clusters.{at_first, full, one_more, stopped}
use Rattle.log_rundown.proofs.cluster.cluster_writes.Goals as goal

pub loop-n-init : goal.loop-n-init
loop-n-init c = at_first c.args.config.now (shown c.args.pager.now).pager (c.new-writes.result).items c.new-writes.ensures.items

pub loop-n-preserved : goal.loop-n-preserved
loop-n-preserved c =
    one_more c.args.config.now (shown c.args.pager.now).pager (c.loop-n.writes).items (c.push.new.self).items c.loop-n.last c.loop-n.n c.in-Some.write c.in_ok-push-in-Some.ensures.items c.loop-n.invariant c.loop-n-test.true c.in-Some.ensures

pub returns-in-None : goal.returns-in-None
returns-in-None c = stopped c.args.config.now (shown c.args.pager.now).pager (c.loop-n.writes).items c.loop-n.last c.loop-n.n c.loop-n.invariant c.in-None.ensures

pub returns : goal.returns
returns c = full c.args.config.now (shown c.args.pager.now).pager (c.loop-n.writes).items c.loop-n.last c.loop-n.n c.loop-n.invariant c.loop-n-test.false
