use Rattle.history_lock.specs.Passes.{seen, view}
use Rattle.vm_state.specs.Based.{base_of}
use Rattle.replay_run.proofs.Played.{every_done, has_played, same_base}
use Rattle.replay_run.proofs.playing.conclude.Goals as goal

pub returns : goal.returns
returns g c =
    let b = base_of c.args._of.now.value in
    let ended = c.requires.ended in
    has_played b c.requires.playable c.close-closed.result (same_base c.close-closed.result (view c.args.ended.pass) b c.close-closed.ensures.known ended.stands)
    (seen c.args.ended.pass) c.close-closed.ensures.whole c.run_law.ensures.run ended.calm (every_done _ b c.args._procs c.requires.procs c.args.ended ended c.if-short.false c.requires.all)
    g.B.Block.tells.content c.run_law.ensures.right
