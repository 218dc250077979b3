use Rattle.std.proofs.Common.{◌≡◌, ◌∙◌, sym, arith, [], ◌∷◌, false}
use Rattle.std.specs.Prelude.{IsUtf8}
use Rattle.std.specs.Str.{bytes_eq}
use Rattle.command_options.proofs.Values.{next_word}
use Rattle.command_options.proofs.words.has_end.Goals as goal

pub loop-word-preserved : goal.loop-word-preserved
loop-word-preserved c =
    next_word (λ word. (bytes_eq word.now (45 ∷ 45 ∷ []) ≡ false) × IsUtf8 word.now) c.args.words.now c.loop-word.word-index (record { ref_ptr = (0, 0); now = [] }) c.loop-word-test.true
    c.loop-word.invariant (sym c.ends_options.ensures.value ∙ c.if-ends_options.false, c.ends_options.ensures.text)

pub returns-clause-text : goal.returns-clause-text
returns-clause-text c = λ e k d lt. (c.loop-word.invariant k d (omega (arith, lt, c.loop-word-test.false))).1
