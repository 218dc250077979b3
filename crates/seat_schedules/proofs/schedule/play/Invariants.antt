use Rattle.std.proofs.Common.{◌≡◌}
use Rattle.seat_schedules.specs.AtWork.{AreAtWork}
use Rattle.seat_schedules.proofs.schedule.play.Given as goal

-- all are at work, the configuration is the same, and the entries are kept if they were
abbrev pub invariant-loop-seat : goal.invariant-loop-seat
invariant-loop-seat g l = record {
  at_work : AreAtWork g.B.Block.seen g.B.Block.tells l.state l.workers;
  config : l.state.config ≡ l.initial.state.config;
  keeps : l.state.keeps ≡ l.initial.state.keeps;
}
