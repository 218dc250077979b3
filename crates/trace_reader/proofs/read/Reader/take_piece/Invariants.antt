use Rattle.std.proofs.Common.{length}
use Rattle.trace_reader.specs.Stream.{IsFrontTaken}
use Rattle.trace_reader.proofs.read.Reader.take_piece.Given as goal

abbrev pub invariant-loop-line : goal.invariant-loop-line
invariant-loop-line l = IsFrontTaken l.fn.self.draft.part l.fn.self.number l.fn.piece l.self.draft l.self.number l.rest

abbrev pub decreases-loop-line : goal.decreases-loop-line
decreases-loop-line l = length l.rest
