use Rattle.std.proofs.Common.{◌+◌, ◌*◌, refl, arith}
use Rattle.vm_text.proofs.Decimals.{none_read, one_read}
use Rattle.entry_lines.proofs.Front.{within_18, one_more, spelled}
use Rattle.entry_lines.proofs.words.front_number.Goals as goal

pub overflow_mul-number : goal.overflow_mul-number
overflow_mul-number c = omega (arith, c.loop-end.invariant.small, within_18 c.loop-end.end (omega (arith, c.loop-end-test.true, c.min-most.ensures)))

pub overflow_add-number : goal.overflow_add-number
overflow_add-number c =
    let range = c.if-is_digit.ensures.0 refl in
    omega (arith, c.from.ensures, range.0, range.1, c.loop-end.invariant.small, within_18 c.loop-end.end (omega (arith, c.loop-end-test.true, c.min-most.ensures)))

pub loop-end-init : goal.loop-end-init
loop-end-init c = record { reading = none_read c.args.text.now; small = omega arith; within = omega arith }

pub loop-end-preserved : goal.loop-end-preserved
loop-end-preserved c =
    let range = c.if-is_digit.ensures.0 refl in
    record {
      reading = one_read c.args.text.now c.loop-end.end c.loop-end.number (10 * c.loop-end.number + c.from.result) (omega (arith, c.loop-end-test.true, c.min-most.ensures))
          c.loop-end.invariant.reading range (omega (arith, c.from.ensures, range.0, range.1));
      small = one_more c.loop-end.end c.loop-end.number c.from.result c.loop-end.invariant.small (omega (arith, c.from.ensures, range.0, range.1));
      within = omega (arith, c.loop-end-test.true);
    }

pub returns-clause-front : goal.returns-clause-front
returns-clause-front c =
    let plain = c.if-not-is_plain.ensures.0 refl in
    record {
      same = spelled c.args.text.now c.loop-end.end c.loop-end.number c.loop-end.invariant.reading (omega (arith, c.loop-end.invariant.within, c.min-most.ensures)) plain.0 plain.1 (omega arith);
      ends = c.if-not-ends_word.ensures.0 refl;
    }
