use Rattle.run_words.specs.Text.{status_line}
use Rattle.command_ends.proofs.Ending.{ends_cut, ends_then}
use Rattle.run_text.specs.Parts.{run_status}
use Rattle.run_commands.proofs.make_call.end_made.Goals as goal

pub returns-in-Ok : goal.returns-in-Ok
returns-in-Ok g c = λ entries all kinds. ends_then {two = status_line (run_status c.args.run.now.dirty.items)} (c.in-Ok.ensures entries all kinds) (rw (c.status_of.ensures, c.deref.ensures.value) at c.end_with.ensures)

pub returns-in-Err : goal.returns-in-Err
returns-in-Err g c = λ entries all kinds. ends_cut (status_line (run_status c.args.run.now.dirty.items)) (run_status c.args.run.now.dirty.items) (c.in-Err.ensures entries all kinds)
