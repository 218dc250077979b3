use Rattle.cause_laws.proofs.ComeCaused.{come_misses}
use Rattle.cause_laws.proofs.laws.no_frame_to_come_is_wanted.Goals as goal

pub returns : goal.returns
returns c = come_misses
