use Rattle.std.proofs.Common.{rules, ◌≡◌, ℕ, false, List, ◌++◌, length, sym, ap, ◌∙◌, append_assoc}
use Rattle.std.specs.Prelude.{◌==◌, codes}
use Rattle.std.specs.List.{flat_map}
use Rattle.command_messages.specs.Shown.{shown}
use Rattle.command_messages.proofs.NextLines.{next_some}
use Rattle.command_messages.proofs.lines.add_next.Goals as goal

pub returns-else-is_empty : goal.returns-else-is_empty
returns-else-is_empty c =
    let before : List ℕ = c.args.out.now.items in
    let right : List ℕ = c.args.right.now.items in
    let words : List ℕ = codes "the line that comes here is " in
    let some : (length right == 0) ≡ false = sym (ap (λ (bytes : List ℕ). length bytes == 0) c.as_slice-bytes.ensures.value) ∙ (sym c.is_empty.ensures ∙ c.if-is_empty.false) in (
      c.push_shown.ensures.items
          ∙ (ap (λ (front : List ℕ). front ++ flat_map shown c.as_slice-bytes.result.now) c.push_word-else-is_empty.ensures.items
          ∙ (ap (λ (bytes : List ℕ). (before ++ words) ++ flat_map shown bytes) c.as_slice-bytes.ensures.value
          ∙ (append_assoc before words (flat_map shown right) ∙ ap (λ (text : List ℕ). before ++ text) (sym (next_some right some))))),
      search rules,
    )
