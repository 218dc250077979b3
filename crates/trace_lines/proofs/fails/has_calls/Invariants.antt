use Rattle.std.proofs.Common.{◌≡◌, ◌+◌, ◌≤◌, length}
use Rattle.trace_words.specs.Words.{words}
use Rattle.trace_lines.proofs.fails.has_calls.Given as goal

abbrev pub invariant-loop-after : goal.invariant-loop-after
invariant-loop-after l = (length (words l.rest) + l.count ≡ length (words l.text)) × (l.count ≤ 16)

abbrev pub decreases-loop-after : goal.decreases-loop-after
decreases-loop-after l = length (words l.rest)
