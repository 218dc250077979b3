use Rattle.std.specs.Prelude.{None}
use Rattle.std.proofs.Math.Nat.{le_refl}
use Rattle.command_ends.proofs.Wronging.{told_alone}
use Rattle.command_calls.proofs.Calling.{is_call, said_causes}
use Rattle.run_commands.proofs.Making.{causes, concludes_made, make_complete}
use Rattle.run_commands.proofs.make_call.run_make.Goals as goal

pub returns-clause-call : goal.returns-clause-call
returns-clause-call g c =
    is_call (said_causes None (causes c.args.make)) (concludes_made c.run_made.ensures.outcome) (le_refl _) c.run_made.ensures.depot_later

pub returns-clause-complete : goal.returns-clause-complete
returns-clause-complete g c = make_complete c.args.make (told_alone (concludes_made c.run_made.ensures.outcome))
