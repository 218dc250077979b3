use Rattle.cause_laws.proofs.AdvanceCaused.{advance_caused}
use Rattle.cause_laws.proofs.laws.advance_is_caused.Goals as goal

pub returns : goal.returns
returns c = advance_caused
