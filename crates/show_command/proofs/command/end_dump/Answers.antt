use Rattle.std.proofs.Common.{inl, inr}
use Rattle.show_command.proofs.command.end_dump.Goals as goal

pub returns-in-Ok : goal.returns-in-Ok
returns-in-Ok g c = inl c.show.ensures

pub returns-in-Err : goal.returns-in-Err
returns-in-Err g c = inr c.end_with.ensures
