use Rattle.std.proofs.Common.{◌∷◌, ◌∙◌, ◌+◌, ℕ, List, take, sym, ap, arith}
use Rattle.std.proofs.lemmas.List.{take_rest}
use Rattle.vm_text.specs.Spaced.{words}
use Rattle.entry_lines.proofs.Front.{word_before, word_alone}
use Rattle.entry_lines.proofs.words.Words.take_front.Goals as goal

pub returns-then-end-text : goal.returns-then-end-text
returns-then-end-text c =
    ap (λ (back : List ℕ). take c.args.end c.args.text.now ∷ words back) (take_rest c.args.text.now (c.args.end + 1))
    ∙ (sym (word_before c.args.text.now c.args.end c.requires.ends c.requires.other c.if-end-text.true) ∙ sym c.requires.left)

pub returns-else-end-text : goal.returns-else-end-text
returns-else-end-text c = sym (word_alone c.args.text.now c.args.end c.requires.other (omega arith)) ∙ sym c.requires.left
