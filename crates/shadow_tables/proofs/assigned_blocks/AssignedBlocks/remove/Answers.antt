use Rattle.std.proofs.Common.{sym}
use Rattle.shadow_tables.proofs.Entries.{none_without}
use Rattle.shadow_tables.proofs.assigned_blocks.AssignedBlocks.remove.Goals as goal

pub returns-in-None : goal.returns-in-None
returns-in-None c = none_without c.args.self.now c.args.page (sym c.in-None.ensures)
