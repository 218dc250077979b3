use Rattle.std.proofs.Common.{arith, ℕ, List, ◌++◌, ◌∙◌, ap, append_assoc, eq-eqb}
use Rattle.std.specs.Prelude.{◌==◌, codes}
use Rattle.std.proofs.lemmas.Bool.{ne_eqb}
use Rattle.command_messages.specs.Forms.{form_text, place_text}
use Rattle.command_messages.specs.LineWords.{line_word}
use Rattle.command_messages.proofs.Adding.{adds_first, adds_second}
use Rattle.command_messages.proofs.places.push_misplaced.Goals as goal

pub returns-then-word-eq1 : goal.returns-then-word-eq1
returns-then-word-eq1 c =
    let before : List ℕ = c.args.out.now.items in
    let first : List ℕ = line_word 1 c.args.text.now in
    let place : List ℕ = place_text first in
    let form : List ℕ = form_text first (line_word 2 c.args.text.now) in
    let items =
    c.push_word-then-word-eq1.ensures.items
    ∙ ap (λ (front : List ℕ). front ++ c.place_of.result.now) c.push_word.ensures.items
    ∙ ap (λ (text : List ℕ). (before ++ codes "the line doesn't belong here: ") ++ text) (c.place_of.ensures.0 ∙ ap place_text c.line_word-first.ensures)
    ∙ append_assoc before (codes "the line doesn't belong here: ") place in
    adds_first before c.push_word-then-word-eq1.new.out.items (codes "the line doesn't belong here: " ++ place) (codes "the line has too many or too few words: its form is " ++ form) (c.args.word == 1)
    (eq-eqb c.args.word 1 c.if-word-eq1.true) (items, omega (arith, c.push_word.ensures.len, c.push_word-then-word-eq1.ensures.len, c.place_of.ensures.1))

pub returns-else-word-eq1 : goal.returns-else-word-eq1
returns-else-word-eq1 c =
    let before : List ℕ = c.args.out.now.items in
    let first : List ℕ = line_word 1 c.args.text.now in
    let second : List ℕ = line_word 2 c.args.text.now in
    let place : List ℕ = place_text first in
    let form : List ℕ = form_text first second in
    let items =
    c.push_word-else-word-eq1-2.ensures.items
    ∙ ap (λ (front : List ℕ). front ++ c.form_of.result.now) c.push_word-else-word-eq1.ensures.items
    ∙ ap (λ (text : List ℕ). (before ++ codes "the line has too many or too few words: its form is ") ++ text)
    (c.form_of.ensures.0 ∙ ap (λ (word : List ℕ). form_text word c.line_word.result.now) c.line_word-first.ensures ∙ ap (form_text first) c.line_word.ensures)
    ∙ append_assoc before (codes "the line has too many or too few words: its form is ") form in
    adds_second before c.push_word-else-word-eq1-2.new.out.items (codes "the line doesn't belong here: " ++ place) (codes "the line has too many or too few words: its form is " ++ form) (c.args.word == 1)
    (ne_eqb c.args.word 1 c.if-word-eq1.false) (items, omega (arith, c.push_word-else-word-eq1.ensures.len, c.push_word-else-word-eq1-2.ensures.len, c.form_of.ensures.1))
