use Rattle.serial_run.proofs.RunsEnd.{is_there}
use Rattle.serial_run.proofs.to_report.answer_requests.Goals as goal

pub returns-clause-there : goal.returns-clause-there
returns-clause-there g c = is_there g.B.Block.tells.content c.run_body.new.state c.in_ok-run_body.ensures.between c.in_ok-run_body.ensures.serial c.in_ok-run_body.ensures.right

pub returns-clause-serial : goal.returns-clause-serial
returns-clause-serial g c = c.in_ok-run_body.ensures.serial
