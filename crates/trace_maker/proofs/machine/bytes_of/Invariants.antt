use Rattle.std.proofs.Common.{◌≡◌, ◌-◌, ◌++◌, replicate}
use Rattle.trace_maker.specs.Made.{pattern}
use Rattle.trace_maker.proofs.machine.bytes_of.Given as goal

-- the bytes so far, and zeros
abbrev pub invariant-loop-n : goal.invariant-loop-n
invariant-loop-n l = l.bytes.items ≡ pattern l.n ++ replicate (l.count - l.n) 0
