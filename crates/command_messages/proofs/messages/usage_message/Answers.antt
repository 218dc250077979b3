use Rattle.std.proofs.Common.{ℕ, List, [], ◌∷◌, ◌++◌, ap, ◌∙◌}
use Rattle.std.specs.Prelude.{codes}
use Rattle.command_messages.specs.LineFaults.{said_text}
use Rattle.command_messages.specs.Messages.{usage_text}
use Rattle.command_messages.proofs.messages.usage_message.Goals as goal

pub returns : goal.returns
returns c =
    c.push_word-3.ensures.items
    ∙ ap (λ (front : List ℕ). front ++ usage_text)
    (c.push_word-2.ensures.items
    ∙ ap (λ (front : List ℕ). front ++ 10 ∷ [])
    (c.add_said.ensures.0
    ∙ ap (λ (front : List ℕ). front ++ said_text c.args.fault c.args.text.now.items) (c.push_word.ensures.items ∙ ap (λ (front : List ℕ). front ++ codes "neqysbar: ") c.new-out.ensures)))
