use Rattle.std.proofs.Common.{sym, ◌∙◌}
use Rattle.std.proofs.lemmas.Result.{on_ok_weaker}
use Rattle.shadow_tables.proofs.Entries.{with_none, with_one}
use Rattle.shadow_tables.proofs.assigned_blocks.AssignedBlocks.assign.Goals as goal

pub returns-in-Some : goal.returns-in-Some
returns-in-Some c = with_one c.args.self.now c.args.page c.args.n _ (sym c.in-Some.ensures)

pub returns-in-None : goal.returns-in-None
returns-in-None c = on_ok_weaker c.give.result (λ is. is ∙ with_none c.args.self.now c.args.page c.args.n (sym c.in-None.ensures)) c.give.ensures
