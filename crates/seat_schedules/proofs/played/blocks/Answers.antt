use Rattle.seat_schedules.specs.Played.{page_block_at}
use Rattle.seat_schedules.proofs.LinesPlayed.{row_added}
use Rattle.seat_schedules.proofs.played.blocks.Goals as goal

pub loop-b-preserved : goal.loop-b-preserved
loop-b-preserved g c =
    row_added (page_block_at c.args.state.now) c.loop-b.blocks.items _ c.loop-b.b c.block.result c.in_ok-push.ensures.items c.loop-b.invariant c.block.ensures
