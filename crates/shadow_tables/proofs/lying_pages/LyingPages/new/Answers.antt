use Rattle.shadow_tables.proofs.Swapped.{first_lies, first_swapped}
use Rattle.shadow_tables.proofs.lying_pages.LyingPages.new.Goals as goal

pub invariant_of-result : goal.invariant_of-result
invariant_of-result c = first_swapped _ _ _ c.in_ok-new.ensures c.in_ok-new-2.ensures

pub returns : goal.returns
returns c = λ page. first_lies _ _ _ page c.in_ok-kinds_of.ensures (c.in_ok-new.ensures page)
