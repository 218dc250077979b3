use Rattle.std.proofs.Common.{arith}
use Rattle.paging_study.proofs.BitSteps.{highest}
use Rattle.paging_study.proofs.bits.highest.Goals as goal

pub returns-clause-set : goal.returns-clause-set
returns-clause-set c = (highest c.args.word c.requires (omega arith)).set

pub returns-clause-last : goal.returns-clause-last
returns-clause-last c = (highest c.args.word c.requires (omega arith)).last
