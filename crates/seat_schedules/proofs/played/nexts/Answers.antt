use Rattle.vm_state.specs.History.{pager}
use Rattle.seat_schedules.proofs.NextFrames.{next_added, none_next}
use Rattle.seat_schedules.proofs.played.nexts.Goals as goal

pub loop-f-init : goal.loop-f-init
loop-f-init g c = none_next (pager c.args.state.now) c.new-nexts.result.items c.new-nexts.ensures.items

pub loop-f-preserved : goal.loop-f-preserved
loop-f-preserved g c =
    next_added (pager c.args.state.now) c.loop-f.f c.loop-f.nexts.items _ c.next.result c.loop-f.invariant c.next.ensures c.in_ok-push.ensures.items
