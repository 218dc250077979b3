use Rattle.pager_laws.proofs.OpeningKept.{opening_kept}
use Rattle.pager_laws.proofs.StepKept.{step_kept}
use Rattle.pager_laws.proofs.KeptIsSound.{kept_is_sound}
use Rattle.pager_laws.proofs.laws.steps_keep_soundness.Goals as goal

pub returns-clause-opening : goal.returns-clause-opening
returns-clause-opening c = opening_kept

pub returns-clause-steps : goal.returns-clause-steps
returns-clause-steps c = step_kept

pub returns-clause-points : goal.returns-clause-points
returns-clause-points c = kept_is_sound
