use Rattle.rundown.proofs.RoundsGo.{round_moved}
use Rattle.rundown.proofs.rounds.write_round.Goals as goal

pub returns-clause-moved : goal.returns-clause-moved
returns-clause-moved g c = λ following.
    round_moved c.args.state.now c.write_one_cluster-cluster.new.state g.B.Block.tells.content (c.write_one_cluster-cluster.result).all_failed following c.args.left c.saturating_sub.result
    (c.write_one_cluster-cluster.result).writes c.saturating_sub.ensures c.write_one_cluster-cluster.ensures.writes c.write_one_cluster-cluster.ensures.written
