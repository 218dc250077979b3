use Rattle.std.proofs.Common.{◌∙◌, sym, ap}
use Rattle.vm_text.specs.Spaced.{words_left}
use Rattle.vm_text.proofs.Splitting.{some_word}
use Rattle.entry_lines.proofs.words.Words.end.Goals as goal

pub returns-in-Some : goal.returns-in-Some
returns-in-Some c = λ none. some_word c.in-Some.field-0.now (sym (ap words_left c.in-Some.is) ∙ (c.self.view_is ∙ none))
