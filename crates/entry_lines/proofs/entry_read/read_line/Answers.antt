use Rattle.std.proofs.Common.{◌∙◌, sym, ap}
use Rattle.std.specs.Prelude.{decimal}
use Rattle.vm_text.specs.Spaced.{words}
use Rattle.vm_text.proofs.Blanks.{spaced_words}
use Rattle.vm_journal.specs.Line.{entry_words}
use Rattle.entry_lines.proofs.LineWords.{line_words}
use Rattle.entry_lines.proofs.entry_read.read_line.Goals as goal

pub returns-in-Some-clause-line : goal.returns-in-Some-clause-line
returns-in-Some-clause-line c =
    (c.in-Some.ensures.found.0.1, spaced_words (decimal c.in-Some.read.0) (entry_words c.args.procs c.args.names.now c.in-Some.read.1) c.args.text.now (c.in-Some.ensures.found.1 ∙ c.of-words.ensures))

pub returns-in-None-clause-bad : goal.returns-in-None-clause-bad
returns-in-None-clause-bad c = λ number e small has is.
    c.in-None.ensures.none (number, e) (small, has)
    (sym (line_words c.args.procs c.args.names.now number e c.requires.names small has) ∙ (ap words is ∙ sym c.of-words.ensures))
