use Rattle.log_check.proofs.Numbered.{its_line}
use Rattle.log_check.proofs.entry_line.entry_of.Goals as goal

pub returns-in-Ok-clause-entry : goal.returns-in-Ok-clause-entry
returns-in-Ok-clause-entry c =
    c.numbered.ensures.entry c.args.config.now c.args.line.now c.requires
    (its_line c.args.config.now c.items.result.now c.items-2.result.now c.args.line.now c.in-Ok.n c.in-Ok.e c.items.ensures c.items-2.ensures c.in-Ok.ensures.line)

pub returns-in-Ok-clause-none : goal.returns-in-Ok-clause-none
returns-in-Ok-clause-none c =
    c.numbered.ensures.none c.args.config.now c.args.line.now
    (its_line c.args.config.now c.items.result.now c.items-2.result.now c.args.line.now c.in-Ok.n c.in-Ok.e c.items.ensures c.items-2.ensures c.in-Ok.ensures.line)
