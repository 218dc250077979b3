use Rattle.std.proofs.Common.{arith, ℕ, List, ◌++◌, sym, ◌∙◌, ap, append_assoc}
use Rattle.std.specs.Prelude.{codes}
use Rattle.command_messages.specs.LineFaults.{command_with, option_word, takes_text}
use Rattle.command_messages.proofs.messages.add_missing.Goals as goal

pub returns : goal.returns
returns c =
    let before : List ℕ = c.args.out.now.items in
    let word : List ℕ = option_word c.args.option in
    let takes : List ℕ = takes_text (command_with c.args.option) in (
      c.push_word-3.ensures.items
          ∙ ap (λ (front : List ℕ). front ++ c.taken_by.result.now)
          (c.push_word-2.ensures.items ∙ ap (λ (front : List ℕ). front ++ codes " is missing: ") (c.push_word.ensures.items ∙ ap (λ (name : List ℕ). before ++ name) c.words_of.ensures.name.0))
          ∙ ap (λ (text : List ℕ). ((before ++ word) ++ codes " is missing: ") ++ text) (c.taken_by.ensures.0 ∙ ap takes_text c.command_with.ensures)
          ∙ append_assoc (before ++ word) (codes " is missing: ") takes
          ∙ append_assoc before word (codes " is missing: " ++ takes)
          ∙ ap (λ (text : List ℕ). before ++ text) (sym (append_assoc word (codes " is missing: ") takes)),
      omega (arith, c.push_word.ensures.len, c.push_word-2.ensures.len, c.push_word-3.ensures.len, c.words_of.ensures.name.1, c.taken_by.ensures.1),
    )
