use Rattle.std.proofs.Common.{arith, ℕ, List, ◌++◌, ◌∙◌, ap, append_assoc}
use Rattle.std.specs.Prelude.{codes}
use Rattle.vm_text.specs.Names.{process_name}
use Rattle.command_messages.proofs.bounds.push_next_letter.Goals as goal

pub returns : goal.returns
returns c =
    let before : List ℕ = c.args.out.now.items in
    let name : List ℕ = process_name c.args.p in (
      c.push_word-2.ensures.items
          ∙ ap (λ (front : List ℕ). front ++ codes ": they are declared in the order of their letters")
          (c.push_process.ensures.items ∙ ap (λ (front : List ℕ). front ++ name) c.push_word.ensures.items)
          ∙ append_assoc (before ++ codes "the next process is ") name (codes ": they are declared in the order of their letters")
          ∙ append_assoc before (codes "the next process is ") (name ++ codes ": they are declared in the order of their letters"),
      omega (arith, c.push_word.ensures.len, c.push_process.ensures.len, c.push_word-2.ensures.len),
    )
