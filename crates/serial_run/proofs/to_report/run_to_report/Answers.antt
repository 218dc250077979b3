use Rattle.std.proofs.Common.{ap}
use Rattle.vm_state.specs.History.{History}
use Rattle.serial_run.proofs.RunsEnd.{is_reached}
use Rattle.serial_run.proofs.to_report.run_to_report.Goals as goal

pub returns-clause-reached : goal.returns-clause-reached
returns-clause-reached g c =
    is_reached g.D.Block.Block.tells.content c.args.config c.in_ok-state.state c.answer_requests.new.state
    (ap (λ (x : History). x.config) c.in_ok-state.ensures) (ap (λ (x : History). x.keeps) c.in_ok-state.ensures)
    c.in_ok-answer_requests.ensures.same c.in_ok-answer_requests.ensures.there c.in_ok-answer_requests.ensures.serial
