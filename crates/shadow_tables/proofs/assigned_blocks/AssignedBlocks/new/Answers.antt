use Rattle.shadow_tables.proofs.Entries.{first_assigned}
use Rattle.shadow_tables.proofs.assigned_blocks.AssignedBlocks.new.Goals as goal

pub invariant_of-result : goal.invariant_of-result
invariant_of-result c = first_assigned _ _ _ _ c.new-2.ensures c.in_ok-new.ensures (c.in_ok-vec.ensures.items_if_clones_equal (λ y e. e))
