use Rattle.std.proofs.Common.{rules, Some, ap}
use Rattle.replay_cli.proofs.SixLetters.{six}
use Rattle.replay_cli.proofs.words.plain_command.Goals as goal

pub returns-in-serial-clause-some : goal.returns-in-serial-clause-some
returns-in-serial-clause-some c =
    ap Some (six c.args.name.now 115 101 114 105 97 108 (search rules) (search rules) (search rules) (search rules) (search rules) (search rules) (search rules))

pub returns-in-replay-clause-some : goal.returns-in-replay-clause-some
returns-in-replay-clause-some c =
    ap Some (six c.args.name.now 114 101 112 108 97 121 (search rules) (search rules) (search rules) (search rules) (search rules) (search rules) (search rules))
