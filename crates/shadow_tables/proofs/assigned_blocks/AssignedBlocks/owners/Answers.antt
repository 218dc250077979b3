use Rattle.shadow_tables.proofs.Entries.{none_owns_section, none_owns_swap}
use Rattle.shadow_tables.proofs.assigned_blocks.AssignedBlocks.owners.Goals as goal

pub returns-in-Section : goal.returns-in-Section
returns-in-Section c = none_owns_section c.args.self.now c.args.block _ _ c.in-Section.is

pub returns-in-Swap : goal.returns-in-Swap
returns-in-Swap c = none_owns_swap c.args.self.now c.args.block _ _ c.in-Swap.is
