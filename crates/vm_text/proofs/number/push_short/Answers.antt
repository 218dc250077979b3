use Rattle.std.proofs.Common.{arith}
use Rattle.vm_text.proofs.Pairs.{decimal-myriads}
use Rattle.vm_text.proofs.number.push_short.Goals as goal

pub returns-else-number-lt10000-clause-items : goal.returns-else-number-lt10000-clause-items
returns-else-number-lt10000-clause-items g c =
    decimal-myriads _ _ _ _ _ c.if-number-lt10000.false (omega arith) c.push_four-else-number-lt10000.ensures.items c.push_pair.ensures.items
    c.push_pair-else-number-lt10000.ensures.items
