use Rattle.serial_run.proofs.RunsEnd.{between_there, few_entries, has_ended}
use Rattle.serial_run.proofs.run.end_state.Goals as goal

pub rundown-requires-clause-between : goal.rundown-requires-clause-between
rundown-requires-clause-between g c κs within = between_there g.B.Block.tells.content c.args.state.now.config c.args.state.now.past c.requires

pub returns-clause-ended : goal.returns-clause-ended
returns-clause-ended g c =
    has_ended g.B.Block.tells.content c.args.state.now c.rundown.new.state _ c.rundown.ensures.same c.requires c.rundown.ensures.between c.rundown.ensures.answered
    (λ told. c.rundown.ensures.right told (c.requires.right told)) c.in_ok-dirty.ensures.rundown c.entry_count-at.ensures c.in_ok-report.ensures.report c.in_ok-report.ensures.printable c.in_ok-dirty.ensures.dirty
    (few_entries c.rundown.new.state.past _ c.run_law.ensures.short)
