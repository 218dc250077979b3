use Rattle.std.proofs.Common.{◌≡◌}
use Rattle.trace_maker.specs.Made.{made_procs}
use Rattle.trace_maker.proofs.machine.processes.Given as goal

abbrev pub invariant-loop-n : goal.invariant-loop-n
invariant-loop-n l = l.procs ≡ made_procs l.n
