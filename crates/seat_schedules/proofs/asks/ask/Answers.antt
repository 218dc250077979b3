use Rattle.seat_schedules.proofs.OwnWork.{idle_stays}
use Rattle.seat_schedules.proofs.asks.ask.Goals as goal

pub returns-then-task-seat : goal.returns-then-task-seat
returns-then-task-seat g c = idle_stays c.args.state.now c.args.seat c.requires.free c.args.worker.now c.requires.worker

pub returns-in-None : goal.returns-in-None
returns-in-None g c = idle_stays c.args.state.now c.args.seat c.requires.free c.args.worker.now c.requires.worker
