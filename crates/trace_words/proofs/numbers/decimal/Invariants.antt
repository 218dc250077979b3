use Rattle.trace_words.specs.Number.{decimal_digit}
use Rattle.trace_words.proofs.Spelling.{IsSpelledSoFar}
use Rattle.trace_words.proofs.numbers.decimal.Given as goal

abbrev pub invariant-loop-byte : goal.invariant-loop-byte
invariant-loop-byte l = IsSpelledSoFar decimal_digit 10 l.word l.byte-index l.value
