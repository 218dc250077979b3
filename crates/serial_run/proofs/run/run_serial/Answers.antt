use Rattle.std.proofs.Common.{◌∙◌, ◌++◌, List, ap}
use Rattle.vm_types.specs.BlockView.{Retired}
use Rattle.pager_policy.specs.Serial.{IsSerial}
use Rattle.serial_run.proofs.RunsEnd.{reached_there}
use Rattle.serial_run.proofs.RunsFinish.{finished_by}
use Rattle.serial_run.proofs.run.run_serial.Goals as goal

pub finish_run-requires-clause-there : goal.finish_run-requires-clause-there
finish_run-requires-clause-there g c κs within = reached_there g.D.Block.Block.tells.content c.args.config c.in_ok-state.state c.in_ok-state.ensures.reached

pub returns-clause-finished : goal.returns-clause-finished
returns-clause-finished g c =
    let done = c.in_ok-finish_run.ensures.finished in (
      done.0,
      done.1 ∙ ap (λ (xs : List Retired). xs ++ done.0) c.run_to_report.ensures.retired,
      finished_by g.D.Block.Block.tells IsSerial c.args.config c.in_ok-state.state.config c.in_ok-state.state.past done.0 _ c.in_ok-state.ensures.reached.same c.in_ok-state.ensures.reached.serial done.2,
    )
