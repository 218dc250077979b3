use Rattle.std.proofs.Common.{sym, ◌∙◌}
use Rattle.modified_writer.specs.Begins.{reason_of}
use Rattle.modified_writer.proofs.Beginnings.{begins_cluster, begins_nothing, by_table, cluster_legal}
use Rattle.modified_writer.proofs.writer.begin.Goals as goal

pub returns-then-is_enough-clause-gives : goal.returns-then-is_enough-clause-gives
returns-then-is_enough-clause-gives g c = λ room. begins_nothing c.args.state.now c.args.seat (reason_of c.args.reason) (sym c.is_enough.ensures ∙ c.if-is_enough.true) c.args.carrier.now

pub write_cluster-requires-clause-may : goal.write_cluster-requires-clause-may
write_cluster-requires-clause-may g c κs within =
    cluster_legal c.args.state.now c.args.seat (reason_of c.args.reason) c.run_law.ensures.formed c.run_law.ensures.run c.requires.idle (sym c.is_enough.ensures ∙ c.if-is_enough.false)

pub returns-else-is_enough-clause-gives : goal.returns-else-is_enough-clause-gives
returns-else-is_enough-clause-gives g c =
    λ room. begins_cluster c.args.state.now c.args.seat (reason_of c.args.reason) (sym c.is_enough.ensures ∙ c.if-is_enough.false) c.write_cluster.new.state c.args.carrier.now c.write_cluster.new.carrier
    c.write_cluster.ensures.made c.write_cluster.ensures.lifts

pub returns-then-is_enough-clause-by_table : goal.returns-then-is_enough-clause-by_table
returns-then-is_enough-clause-by_table g c = λ room. by_table c.args.state.now c.args.seat (reason_of c.args.reason)
    (begins_nothing c.args.state.now c.args.seat (reason_of c.args.reason) (sym c.is_enough.ensures ∙ c.if-is_enough.true) c.args.carrier.now)

pub returns-else-is_enough-clause-by_table : goal.returns-else-is_enough-clause-by_table
returns-else-is_enough-clause-by_table g c = λ room. by_table c.args.state.now c.args.seat (reason_of c.args.reason)
    (begins_cluster c.args.state.now c.args.seat (reason_of c.args.reason) (sym c.is_enough.ensures ∙ c.if-is_enough.false) c.write_cluster.new.state c.args.carrier.now c.write_cluster.new.carrier
    c.write_cluster.ensures.made c.write_cluster.ensures.lifts)
