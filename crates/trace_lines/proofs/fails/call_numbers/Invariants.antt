use Rattle.std.proofs.Common.{length}
use Rattle.trace_words.specs.Words.{words}
use Rattle.trace_lines.proofs.Calls.{AreReadSoFar}
use Rattle.trace_lines.proofs.fails.call_numbers.Given as goal

abbrev pub invariant-loop-word : goal.invariant-loop-word
invariant-loop-word l = AreReadSoFar (words l.text) l.calls.items (words l.rest)

abbrev pub decreases-loop-word : goal.decreases-loop-word
decreases-loop-word l = length (words l.rest)
