use Rattle.std.proofs.Math.Nat.{le_refl}
use Rattle.command_ends.proofs.Wronging.{told_alone}
use Rattle.command_calls.proofs.Calling.{is_call, said_causes}
use Rattle.show_command.proofs.Showing.{causes, complete_status, concludes_dump, concludes_fault, fault_text}
use Rattle.show_command.proofs.command.show_dump.Goals as goal

pub returns-in-Ok-clause-call : goal.returns-in-Ok-clause-call
returns-in-Ok-clause-call g c =
    is_call (said_causes _ (causes _)) (concludes_dump c.in-Ok.dump c.in-Ok.ensures.bounds c.in-Ok.ensures.text c.in-Ok.ensures.faults c.end_dump.ensures)
    c.in-Ok.ensures.faults_later (le_refl _)

pub returns-in-Err-clause-call : goal.returns-in-Err-clause-call
returns-in-Err-clause-call g c =
    is_call (said_causes _ (causes _)) (concludes_fault c.in-Err.fault c.wrong_in_dump.result c.wrong_in_dump.ensures c.in-Err.ensures.text c.in-Err.ensures.faults c.end_fault.ensures)
    c.in-Err.ensures.faults_later (le_refl _)

pub returns-in-Ok-clause-complete : goal.returns-in-Ok-clause-complete
returns-in-Ok-clause-complete g c = λ input none.
    complete_status (told_alone (concludes_dump c.in-Ok.dump c.in-Ok.ensures.bounds c.in-Ok.ensures.text c.in-Ok.ensures.faults c.end_dump.ensures)) input none.read none.wrote none.took

pub returns-in-Err-clause-complete : goal.returns-in-Err-clause-complete
returns-in-Err-clause-complete g c = λ input none.
    complete_status (told_alone (concludes_fault c.in-Err.fault c.wrong_in_dump.result c.wrong_in_dump.ensures c.in-Err.ensures.text c.in-Err.ensures.faults c.end_fault.ensures)) input none.read none.wrote none.took

pub returns-in-Ok-clause-kept : goal.returns-in-Ok-clause-kept
returns-in-Ok-clause-kept g c = λ input kept. tt

pub returns-in-Err-clause-kept : goal.returns-in-Err-clause-kept
returns-in-Err-clause-kept g c = fault_text c.in-Err.fault c.wrong_in_dump.result c.wrong_in_dump.ensures
