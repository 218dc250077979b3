use Rattle.std.proofs.Common.{arith}
use Rattle.vm_text.proofs.Pairs.{decimal-hundreds}
use Rattle.vm_text.proofs.number.push_four.Goals as goal

pub returns-else-number-lt100-clause-items : goal.returns-else-number-lt100-clause-items
returns-else-number-lt100-clause-items g c =
    decimal-hundreds _ _ _ _ c.if-number-lt100.false (omega arith) c.push_first-else-number-lt100.ensures.items c.push_pair.ensures.items
