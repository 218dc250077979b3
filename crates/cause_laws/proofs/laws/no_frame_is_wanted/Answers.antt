use Rattle.cause_laws.proofs.NoFrame.{no_frame_wanted}
use Rattle.cause_laws.proofs.laws.no_frame_is_wanted.Goals as goal

pub returns : goal.returns
returns c = no_frame_wanted
