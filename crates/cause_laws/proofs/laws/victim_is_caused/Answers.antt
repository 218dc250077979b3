use Rattle.cause_laws.proofs.Turned.{victim_turned}
use Rattle.cause_laws.proofs.laws.victim_is_caused.Goals as goal

pub returns : goal.returns
returns c = victim_turned
