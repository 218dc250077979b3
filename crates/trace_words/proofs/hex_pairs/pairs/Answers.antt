use Rattle.std.proofs.Common.{◌∙◌, sym, arith}
use Rattle.trace_words.proofs.Pairing.{one_pair}
use Rattle.trace_words.proofs.hex_pairs.pairs.Goals as goal

pub loop-rest-preserved : goal.loop-rest-preserved
loop-rest-preserved c =
    rw (c.push.ensures.items, c.split_at.ensures.back)
    (one_pair c.args.word.now c.loop-rest.bytes.items c.loop-rest.rest.now c.in_ok-high.high c.in_ok-low.low c.loop-rest.invariant (omega arith)
    (sym c.in_ok-high.was ∙ c.digit_of_sixteen.ensures) (sym c.in_ok-low.was ∙ c.digit_of_sixteen-in-loop-rest.ensures))
