use Rattle.std.proofs.Common.{◌∙◌, sym, ap}
use Rattle.vm_text.specs.Spaced.{words, words_left}
use Rattle.vm_text.proofs.Splitting.{words_none, words_at}
use Rattle.entry_lines.proofs.words.Words.next_word.Goals as goal

pub returns-in-None : goal.returns-in-None
returns-in-None c = sym c.self.view_is ∙ (ap words_left c.in-Some.is ∙ words_none c.in-Some.text.now c.in-None.ensures)

pub returns-in-Some-cut : goal.returns-in-Some-cut
returns-in-Some-cut c =
    sym c.self.view_is ∙ (ap words_left c.in-Some.is
    ∙ (ap words c.in-Some-cut.ensures.1 ∙ words_at c.in-Some-cut.word.now c.in-Some-cut.rest.now c.in-Some-cut.ensures.0))
