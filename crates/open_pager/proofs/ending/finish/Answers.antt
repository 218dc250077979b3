use Rattle.std.proofs.Common.{ap, subst}
use Rattle.vm_types.specs.declared.config.Config.{Config}
use Rattle.pager_policy.specs.Serial.{IsSerial}
use Rattle.serial_moves.specs.Controls.{control_in}
use Rattle.serial_run.proofs.RunsEnd.{is_there}
use Rattle.serial_run.proofs.RunsFinish.{finished_by}
use Rattle.open_pager.specs.Open.{OpenView}
use Rattle.open_pager.proofs.OpenRuns.{is_serial}
use Rattle.open_pager.proofs.ending.finish.Goals as goal

pub finish_run-requires-clause-keeps : goal.finish_run-requires-clause-keeps
finish_run-requires-clause-keeps g c κs within = (c.pager.invariant c.if-stopped.false).keeps

pub finish_run-requires-clause-there : goal.finish_run-requires-clause-there
finish_run-requires-clause-there g c κs within =
    let waits = (c.pager.invariant c.if-stopped.false).waits in
    is_there g.D.Block.Block.tells.content c.pager.inside.state waits.open_there.between (is_serial c.pager.inside.state (control_in c.pager.inside.control) waits) c.run_law.ensures.right

pub returns-clause-finished : goal.returns-clause-finished
returns-clause-finished g c =
    let done = c.in_ok-finish_run.ensures.finished in
    let same = ap (λ (p : OpenView). p.history.config) c.pager.view_is in
    let serial = is_serial c.pager.inside.state (control_in c.pager.inside.control) (c.pager.invariant c.if-stopped.false).waits in (
      done.0,
      done.1,
      finished_by g.D.Block.Block.tells IsSerial c.args.pager.history.config c.pager.inside.state.config c.pager.inside.state.past done.0 _ same
          (subst (λ (k : Config). IsSerial k c.pager.inside.state.past) same serial) done.2,
    )
