use Rattle.run_words.specs.Text.{status_line}
use Rattle.command_ends.proofs.Ending.{ends_cut, ends_then}
use Rattle.command_ends.proofs.fault.end_faulty.Goals as goal

pub returns-in-Ok : goal.returns-in-Ok
returns-in-Ok g c = ends_then c.in-Ok.ensures c.end_with.ensures

pub returns-in-Err : goal.returns-in-Err
returns-in-Err g c = ends_cut (status_line 2) 2 c.in-Err.ensures
