use Rattle.std.proofs.Math.Nat.{le_refl}
use Rattle.command_ends.proofs.Wronging.{told_alone}
use Rattle.command_calls.proofs.Calling.{is_call, said_causes}
use Rattle.check_command.proofs.Telling.{causes, complete_status}
use Rattle.check_command.proofs.Verdicts.{concludes_judged, judged_text_kept}
use Rattle.check_command.proofs.command.check.Goals as goal

pub returns-clause-call : goal.returns-clause-call
returns-clause-call g c =
    is_call (said_causes c.conclude.result.1 (causes _))
    (concludes_judged c.judge_source-judged.result c.conclude.result.1 c.judge_source-judged.ensures.text c.judge_source-judged.ensures.faults c.conclude.ensures)
    c.judge_source-judged.ensures.faults_later (le_refl _)

pub returns-clause-complete : goal.returns-clause-complete
returns-clause-complete g c = λ input none.
    complete_status (told_alone (concludes_judged c.judge_source-judged.result c.conclude.result.1 c.judge_source-judged.ensures.text c.judge_source-judged.ensures.faults c.conclude.ensures)) input none.read none.wrote none.took

pub returns-clause-kept : goal.returns-clause-kept
returns-clause-kept g c = judged_text_kept _ _ _ c.judge_source-judged.result c.conclude.result.1 _ _ c.conclude.ensures c.judge_source-judged.ensures.kept
