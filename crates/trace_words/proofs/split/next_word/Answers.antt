use Rattle.std.proofs.Common.{◌∙◌, sym, ap}
use Rattle.trace_words.specs.Words.{words}
use Rattle.trace_words.proofs.Splitting.{words_one, words_more, is_some_text, is_some_word}
use Rattle.trace_words.proofs.split.next_word.Goals as goal

pub returns-in-None : goal.returns-in-None
returns-in-None c = sym c.skip_blanks-rest.ensures.same ∙ words_one c.skip_blanks-rest.result.now (is_some_text c.skip_blanks-rest.result.now c.is_empty.result c.is_empty.ensures c.if-is_empty.false) c.in-None.ensures

pub returns-in-Some : goal.returns-in-Some
returns-in-Some c = sym c.skip_blanks-rest.ensures.same ∙ ap words c.in-Some.ensures.1
    ∙ words_more c.in-Some.word.now c.in-Some.behind.now (is_some_word c.skip_blanks-rest.result.now c.in-Some.word.now c.in-Some.behind.now c.in-Some.ensures.1 (is_some_text c.skip_blanks-rest.result.now c.is_empty.result c.is_empty.ensures c.if-is_empty.false) c.skip_blanks-rest.ensures.begins c.in-Some.ensures.2) c.in-Some.ensures.0 c.in-Some.ensures.2
