use Rattle.std.proofs.Common.{ℕ, ◌+◌, get_or, sym, subst, arith}
use Rattle.std.proofs.lemmas.List.{drop_more}
use Rattle.trace_words.specs.Number.{IsDigitOrNone}
use Rattle.trace_words.proofs.Spelling.{summed_more, within, fits_word, digit_small}
use Rattle.trace_words.proofs.numbers.hexadecimal.Goals as goal

pub overflow_mul-value : goal.overflow_mul-value
overflow_mul-value c = omega (arith, within c.loop-byte.byte-index c.loop-byte.value (omega arith) c.loop-byte.invariant.bound)

pub overflow_add-value : goal.overflow_add-value
overflow_add-value c =
    omega (arith, within c.loop-byte.byte-index c.loop-byte.value (omega arith) c.loop-byte.invariant.bound, digit_small (get_or c.args.word.now c.loop-byte.byte-index 0) c.digit_or_none.result c.digit_or_none.ensures)

pub loop-byte-preserved : goal.loop-byte-preserved
loop-byte-preserved c =
    summed_more c.args.word.now c.loop-byte.byte-index (c.loop-byte.byte-index + 1) c.loop-byte.value c.loop-byte.sum (get_or c.args.word.now c.loop-byte.byte-index 0) c.from-digit.result (omega arith) (omega arith) c.loop-byte.invariant
    (drop_more c.args.word.now c.loop-byte.byte-index 0 c.loop-byte-test.true) (subst (λ (d : ℕ). IsDigitOrNone (get_or c.args.word.now c.loop-byte.byte-index 0) d) (sym c.from-digit.ensures) c.digit_or_none.ensures)

pub overflow_cast-result : goal.overflow_cast-result
overflow_cast-result c = omega (arith, fits_word c.loop-byte.byte-index c.loop-byte.value (omega arith) (c.loop-byte.invariant.right c.if-sum-lt128.true).small)
