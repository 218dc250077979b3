use Rattle.seat_schedules.proofs.FirstWorkers.{AreFirst}
use Rattle.seat_schedules.proofs.worker.all_workers.Given as goal

-- the workers of the seats before this one are there
abbrev pub invariant-loop-s : goal.invariant-loop-s
invariant-loop-s g l = AreFirst l.workers.items l.s
