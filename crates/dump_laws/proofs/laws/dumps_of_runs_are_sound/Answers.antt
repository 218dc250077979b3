use Rattle.dump_laws.proofs.NoneWrong.{dump_sound}
use Rattle.dump_laws.proofs.laws.dumps_of_runs_are_sound.Goals as goal

pub returns : goal.returns
returns c = dump_sound
