use Rattle.std.proofs.Common.{◌≡◌}
use Rattle.std.proofs.Math.Nat.{le_refl}
use Rattle.command_ends.proofs.Telling.{answered_status}
use Rattle.command_ends.proofs.Wronging.{told_alone}
use Rattle.command_calls.proofs.Calling.{is_call, said_causes}
use Rattle.study_command.proofs.Undeclaring.{causes, concludes_studied, studied_text_kept}
use Rattle.study_command.proofs.command.study_trace.Goals as goal

pub returns-clause-call : goal.returns-clause-call
returns-clause-call g c =
    is_call (said_causes c.conclude.result.1 (causes c.args.study _))
    (concludes_studied c.args.study c.read_trace-read.result c.conclude.result.1 c.read_trace-read.ensures.text c.read_trace-read.ensures.faults c.conclude.ensures)
    c.read_trace-read.ensures.faults_later (le_refl _)

pub returns-clause-complete : goal.returns-clause-complete
returns-clause-complete g c = λ input none.
    answered_status (told_alone (concludes_studied c.args.study c.read_trace-read.result c.conclude.result.1 c.read_trace-read.ensures.text c.read_trace-read.ensures.faults c.conclude.ensures))
    (λ status. status ≡ 0) (λ config status text outcome answer. answer.0) input none.read none.wrote none.took

pub returns-clause-kept : goal.returns-clause-kept
returns-clause-kept g c = studied_text_kept _ _ _ c.args.study c.read_trace-read.result c.conclude.result.1 _ _ _ c.read_trace-read.ensures.text c.read_trace-read.ensures.kept c.conclude.ensures
