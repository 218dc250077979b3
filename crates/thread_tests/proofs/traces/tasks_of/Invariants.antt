-- The tasks before this one.
use Rattle.std.proofs.Common.{◌≡◌, take}
use Rattle.thread_tests.proofs.traces.tasks_of.Given as goal

abbrev pub invariant-loop-i : goal.invariant-loop-i
invariant-loop-i l = l.tasks.items ≡ take l.i l.body
