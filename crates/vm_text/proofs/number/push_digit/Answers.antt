use Rattle.std.proofs.Common.{◌∙◌, ap, ◌++◌, ◌∷◌, []}
use Rattle.vm_text.proofs.Pairs.{hex_digit_at}
use Rattle.vm_text.proofs.number.push_digit.Goals as goal

pub returns-clause-items : goal.returns-clause-items
returns-clause-items g c = c.push.ensures.items ∙ ap (λ d. c.args.out.now.items ++ d ∷ []) (hex_digit_at c.args.digit c.requires.few)
