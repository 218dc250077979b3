use Rattle.std.proofs.Math.Nat.{le_refl}
use Rattle.command_ends.proofs.Wronging.{fault_text_kept, told_alone}
use Rattle.command_calls.proofs.Calling.{is_call, said_causes}
use Rattle.replay_run.specs.Replayed.{HasWorkedAfterAnswers}
use Rattle.run_commands.proofs.Running.{causes, run_complete}
use Rattle.run_commands.proofs.Serving.{concludes_run, concludes_unread}
use Rattle.replay_cli.proofs.replay_call.replay.Goals as goal

pub returns-in-Ok-clause-call : goal.returns-in-Ok-clause-call
returns-in-Ok-clause-call g c =
    is_call (said_causes _ (causes HasWorkedAfterAnswers)) (concludes_run HasWorkedAfterAnswers c.in-Ok.config c.in-Ok.ensures.text c.in-Ok.ensures.faults c.run_config.ensures.outcome)
    c.in-Ok.ensures.faults_later c.run_config.ensures.depot_later

pub returns-in-Err-clause-call : goal.returns-in-Err-clause-call
returns-in-Err-clause-call g c =
    is_call (said_causes c.wrong_of.result (causes HasWorkedAfterAnswers)) (concludes_unread HasWorkedAfterAnswers c.in-Err.fault c.wrong_of.result c.wrong_of.ensures c.in-Err.ensures.text c.in-Err.ensures.faults c.end_fault.ensures)
    c.in-Err.ensures.faults_later (le_refl _)

pub returns-in-Ok-clause-complete : goal.returns-in-Ok-clause-complete
returns-in-Ok-clause-complete g c =
    run_complete HasWorkedAfterAnswers (told_alone (concludes_run HasWorkedAfterAnswers c.in-Ok.config c.in-Ok.ensures.text c.in-Ok.ensures.faults c.run_config.ensures.outcome))

pub returns-in-Err-clause-complete : goal.returns-in-Err-clause-complete
returns-in-Err-clause-complete g c =
    run_complete HasWorkedAfterAnswers (told_alone (concludes_unread HasWorkedAfterAnswers c.in-Err.fault c.wrong_of.result c.wrong_of.ensures c.in-Err.ensures.text c.in-Err.ensures.faults c.end_fault.ensures))

pub returns-in-Err-clause-kept : goal.returns-in-Err-clause-kept
returns-in-Err-clause-kept g c = fault_text_kept c.in-Err.fault c.wrong_of.result _ _ c.wrong_of.ensures c.in-Err.ensures.kept
