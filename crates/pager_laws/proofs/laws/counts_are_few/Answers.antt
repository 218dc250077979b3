use Rattle.pager_laws.proofs.FewCounts.{counts_few}
use Rattle.pager_laws.proofs.laws.counts_are_few.Goals as goal

pub returns : goal.returns
returns c = counts_few
