use Rattle.std.proofs.Common.{length, ap, ◌∙◌}
use Rattle.first_parts.proofs.FirstPages.{can_lay_all}
use Rattle.first_parts.proofs.page_parts.first_tables.Goals as goal

pub lay_all-requires-clause-can : goal.lay_all-requires-clause-can
lay_all-requires-clause-can c = can_lay_all c.args.config.now c.args.firsts.now (c.in_ok-tables.tables).procs c.requires.formed c.requires.firsts (c.in_ok-tables.ensures.procs ∙ ap length c.items.ensures)
