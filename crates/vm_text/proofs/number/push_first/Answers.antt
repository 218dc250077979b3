use Rattle.std.proofs.Common.{◌∙◌}
use Rattle.vm_text.proofs.Pairs.{decimal-first_digit, decimal-first_pair}
use Rattle.vm_text.proofs.number.push_first.Goals as goal

pub returns-then-number-lt10-clause-items : goal.returns-then-number-lt10-clause-items
returns-then-number-lt10-clause-items g c = c.push.ensures.items ∙ decimal-first_digit _ _ c.if-number-lt10.true

pub returns-else-number-lt10-clause-items : goal.returns-else-number-lt10-clause-items
returns-else-number-lt10-clause-items g c = c.push_pair.ensures.items ∙ decimal-first_pair _ _ c.if-number-lt10.false c.requires.few
