use Rattle.cause_laws.proofs.ComeCaused.{come_caused}
use Rattle.cause_laws.proofs.laws.come_is_caused.Goals as goal

pub returns : goal.returns
returns c = come_caused
