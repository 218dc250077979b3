use Rattle.std.proofs.Common.{length}
use Rattle.trace_reader.specs.Stream.{IsFrontTaken}
use Rattle.trace_reader.proofs.read.Reader.take_requests.Given as goal

abbrev pub invariant-loop-task : goal.invariant-loop-task
invariant-loop-task l = IsFrontTaken l.fn.self.draft.part l.fn.self.number l.fn.text l.self.draft l.self.number l.rest

abbrev pub decreases-loop-task : goal.decreases-loop-task
decreases-loop-task l = length l.rest
