use Rattle.replay_cli.proofs.ShownDumps.{has_dump, shown_right}
use Rattle.replay_cli.proofs.laws.dumps_are_shown_right.Goals as goal

pub returns : goal.returns
returns c = record { input = has_dump; right = shown_right }
