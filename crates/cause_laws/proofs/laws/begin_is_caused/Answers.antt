use Rattle.cause_laws.proofs.BeginCaused.{begin_caused}
use Rattle.cause_laws.proofs.laws.begin_is_caused.Goals as goal

pub returns : goal.returns
returns c = begin_caused
