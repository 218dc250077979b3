use Rattle.std.proofs.Common.{rules, arith, ℕ, List, ◌∷◌, ◌++◌, length, sym, ◌∙◌, ap, append_assoc}
use Rattle.std.proofs.lemmas.List.{length-append}
use Rattle.command_messages.specs.ReasonText.{filled_in, reason_text, right_of, right_text, seat_words}
use Rattle.command_messages.proofs.Filling.{filled_at, filled_none}
use Rattle.command_messages.proofs.said.push_reason.Goals as goal

pub returns-in-None : goal.returns-in-None
returns-in-None g c =
    let before : List ℕ = c.args.out.now.items in
    let text : List ℕ = right_text (right_of c.args.reason) in (
      c.push_word.ensures.items
          ∙ ap (λ (words : List ℕ). before ++ words)
          (sym (filled_none c.seat_words-words.result.now text c.in-None.ensures) ∙ ap (λ (words : List ℕ). filled_in words text) c.seat_words-words.ensures.0),
      search rules,
    )

pub returns-in-Some : goal.returns-in-Some
returns-in-Some g c =
    let before : List ℕ = c.args.out.now.items in
    let front : List ℕ = c.in-Some.front.now in
    let back : List ℕ = c.in-Some.back.now in
    let text : List ℕ = right_text (right_of c.args.reason) in
    let right_is = c.as_slice.ensures.value ∙ c.right_text-right.ensures.items ∙ ap right_text c.right_of.ensures in (
      c.push_word-in-Some-3.ensures.items
          ∙ ap (λ (xs : List ℕ). xs ++ back) (c.push_word-in-Some-2.ensures.items ∙ ap (λ (xs : List ℕ). xs ++ c.as_slice.result.now) c.push_word-in-Some.ensures.items ∙ ap (λ (xs : List ℕ). (before ++ front) ++ xs) right_is)
          ∙ (append_assoc (before ++ front) text back ∙ append_assoc before front (text ++ back))
          ∙ ap (λ (xs : List ℕ). before ++ xs) (sym (filled_at front back text c.in-Some.ensures.0) ∙ ap (λ (words : List ℕ). filled_in words text) (sym c.in-Some.ensures.1 ∙ c.seat_words-words.ensures.0)),
      omega (arith, c.push_word-in-Some.ensures.len, c.push_word-in-Some-2.ensures.len, c.push_word-in-Some-3.ensures.len, ap length c.as_slice.ensures.value, c.right_text-right.ensures.len, ap length c.in-Some.ensures.1, length-append front (37 ∷ back), c.seat_words-words.ensures.1),
    )
