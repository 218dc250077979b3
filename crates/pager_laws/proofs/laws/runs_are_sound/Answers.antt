use Rattle.pager_laws.proofs.RunsAreSound.{sound_throughout}
use Rattle.pager_laws.proofs.laws.runs_are_sound.Goals as goal

pub returns : goal.returns
returns c = sound_throughout
