use Rattle.std.proofs.Common.{◌≡◌, length}
use Rattle.trace_words.specs.Words.{words}
use Rattle.trace_words.proofs.split.skip_blanks.Given as goal

abbrev pub invariant-loop-rest : goal.invariant-loop-rest
invariant-loop-rest l = words l.rest ≡ words l.fn.text

abbrev pub decreases-loop-rest : goal.decreases-loop-rest
decreases-loop-rest l = length l.rest
