use Rattle.vm_state.specs.Readings.{row_at}
use Rattle.seat_schedules.proofs.LinesPlayed.{row_added}
use Rattle.seat_schedules.proofs.played.frames.Goals as goal

pub loop-f-preserved : goal.loop-f-preserved
loop-f-preserved g c =
    row_added (row_at c.args.state.now) c.loop-f.rows.items _ c.loop-f.f c.frame.result c.in_ok-push.ensures.items c.loop-f.invariant c.frame.ensures
