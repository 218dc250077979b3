use Rattle.std.proofs.Common.{add-one, ◌∙◌, ap, sym, take, drop, arith, ◌∷◌, ◌+◌}
use Rattle.neqysbar_c.specs.Words.{words_of}
use Rattle.std.proofs.lemmas.List.{take_all, length-drop}
use Rattle.neqysbar_c.proofs.Splitting.{words_first, words_last}
use Rattle.neqysbar_c.proofs.words.first_word.Goals as goal

-- src/words.rt:10:1
pub returns-in-Some-clause-words : goal.returns-in-Some-clause-words
returns-in-Some-clause-words c =
    let text = c.args.text.now in
    let n = c.in-Some.end in
    words_first text n c.in-Some.ensures.0.high c.in-Some.ensures.1 c.in-Some.ensures.0.before
    ∙ ap (λ rest. take n text ∷ words_of rest)
    (ap (λ k. drop k text) (sym (add-one n)) ∙ sym (take_all _ (drop (n + 1) text) (omega (arith, length-drop (n + 1) text))))

-- src/words.rt:10:1
pub returns-in-None-clause-words : goal.returns-in-None-clause-words
returns-in-None-clause-words c = words_last c.args.text.now c.requires c.in-None.ensures
