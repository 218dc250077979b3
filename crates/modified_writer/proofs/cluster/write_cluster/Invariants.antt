use Rattle.modified_writer.proofs.ClusterWrites.{IsPartWritten}
use Rattle.modified_writer.proofs.cluster.write_cluster.Given as goal

-- so many writes were made
abbrev pub invariant-loop : goal.invariant-loop
invariant-loop g l =
    IsPartWritten g.B.Block.seen g.B.Block.tells l.fn.state l.fn.seat l.most l.counter l.last l.state l.carrier
