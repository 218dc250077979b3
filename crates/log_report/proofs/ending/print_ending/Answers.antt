use Rattle.run_words.specs.Text.{status_line}
use Rattle.command_ends.proofs.Ending.{ends_cut, ends_then}
use Rattle.log_report.specs.EndStatus.{end_status}
use Rattle.log_report.proofs.ending.print_ending.Goals as goal

pub returns-in-Ok : goal.returns-in-Ok
returns-in-Ok g c = ends_then {two = status_line (end_status c.args.dirty.now)} c.in-Ok.ensures (rw c.end_status.ensures at c.end_with.ensures)

pub returns-in-Err : goal.returns-in-Err
returns-in-Err g c = ends_cut (status_line (end_status c.args.dirty.now)) (end_status c.args.dirty.now) c.in-Err.ensures
