use Rattle.trace_words.proofs.Spelling.{IsSummedSoFar}
use Rattle.trace_words.proofs.numbers.hexadecimal.Given as goal

abbrev pub invariant-loop-byte : goal.invariant-loop-byte
invariant-loop-byte l = IsSummedSoFar l.word l.byte-index l.value l.sum
