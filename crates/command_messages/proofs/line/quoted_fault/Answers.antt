use Rattle.std.proofs.Common.{ℕ, List, Bor, map, take, ◌∙◌, ap}
use Rattle.command_messages.proofs.Holding.{quotes_first}
use Rattle.command_messages.proofs.line.quoted_fault.Goals as goal

pub returns-clause-quotes : goal.returns-clause-quotes
returns-clause-quotes c =
    quotes_first (map (λ (word : Bor (List ℕ)). word.now) c.args.words.now) c.line_fault.result c.keep_front.new.kept.items
    (c.keep_front.ensures ∙ ap (λ (word : List ℕ). take 80 word) c.word_at.ensures)
