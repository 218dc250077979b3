use Rattle.cause_laws.proofs.Landed.{landed_caused}
use Rattle.cause_laws.proofs.laws.landings_are_caused.Goals as goal

pub returns : goal.returns
returns c = landed_caused
