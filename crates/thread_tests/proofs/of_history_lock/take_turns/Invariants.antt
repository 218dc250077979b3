-- The pass is idle between two turns, and owns its number alone.
use Rattle.std.proofs.Common.{◌≡◌}
use Rattle.history_lock.specs.Passes.{OwnsOnly}
use Rattle.thread_tests.proofs.of_history_lock.take_turns.Given as goal

abbrev pub invariant-loop-i : goal.invariant-loop-i
invariant-loop-i g l = record { owns : OwnsOnly l.lock l.pass l.number; number : l.number ≡ l.fn.job.number }
