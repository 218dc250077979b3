use Rattle.std.proofs.Common.{length}
use Rattle.trace_words.proofs.Pairing.{IsPairedSoFar}
use Rattle.trace_words.proofs.hex_pairs.pairs.Given as goal

abbrev pub invariant-loop-rest : goal.invariant-loop-rest
invariant-loop-rest l = IsPairedSoFar l.word l.bytes.items l.rest

abbrev pub decreases-loop-rest : goal.decreases-loop-rest
decreases-loop-rest l = length l.rest
