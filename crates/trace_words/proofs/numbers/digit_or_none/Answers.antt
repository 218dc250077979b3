use Rattle.trace_words.proofs.Digits.{value_of, values, by_entry}
use Rattle.trace_words.proofs.numbers.digit_or_none.Goals as goal

pub returns : goal.returns
unfolding values value_of
returns c = by_entry c.args.byte _ c.ranges.byte.fits
