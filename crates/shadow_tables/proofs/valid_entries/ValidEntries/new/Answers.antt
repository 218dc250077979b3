use Rattle.shadow_tables.proofs.Entries.{first_valid}
use Rattle.shadow_tables.proofs.valid_entries.ValidEntries.new.Goals as goal

pub invariant_of-result : goal.invariant_of-result
invariant_of-result c = first_valid _ _ _ _ _ c.new-2.ensures c.in_ok-new.ensures c.in_ok-no_sharers.ensures
