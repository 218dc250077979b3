use Rattle.std.proofs.Common.{◌≤◌, sym, ap, subst, arith}
use Rattle.vm_types.specs.declared.config.Config.{Config}
use Rattle.modified_writer.proofs.ClusterWrites.{full, may_next, none_written, part_next, stopped}
use Rattle.modified_writer.proofs.cluster.write_cluster.Goals as goal

pub loop-init : goal.loop-init
loop-init g c = none_written c.args.carrier.now c.requires.carrier (ap (λ (x : Config). x.params.wrtcluster) c.config.ensures) c.requires.may c.requires.paid

pub write_one-requires-clause-may : goal.write_one-requires-clause-may
write_one-requires-clause-may g c κs within =
    may_next c.loop.invariant c.loop-test.true (subst (λ (x : Config). x.params.wrtcluster ≤ 16) (sym c.config.ensures) c.requires.formed.params.wrtcluster.1) c.in-Some.f c.in-Some.block c.in-Some.ensures

pub returns-in-None-clause-made : goal.returns-in-None-clause-made
returns-in-None-clause-made g c = (stopped c.loop.invariant c.in-None.ensures).0

pub returns-in-None-clause-lifts : goal.returns-in-None-clause-lifts
returns-in-None-clause-lifts g c = (stopped c.loop.invariant c.in-None.ensures).1

pub loop-preserved : goal.loop-preserved
loop-preserved g c =
    part_next c.loop.invariant c.loop-test.true (subst (λ (x : Config). x.params.wrtcluster ≤ 16) (sym c.config.ensures) c.requires.formed.params.wrtcluster.1) c.in-Some.f c.in-Some.block c.in-Some.ensures
    c.run_law.ensures.formed c.run_law.ensures.run c.write_one.new.state c.write_one.new.carrier c.write_one.ensures.made c.write_one.ensures.begun c.write_one.ensures.each

pub returns-clause-made : goal.returns-clause-made
returns-clause-made g c = (full c.loop.invariant (let least = c.loop-test.false in omega (arith, least))).0

pub returns-clause-lifts : goal.returns-clause-lifts
returns-clause-lifts g c = (full c.loop.invariant (let least = c.loop-test.false in omega (arith, least))).1
