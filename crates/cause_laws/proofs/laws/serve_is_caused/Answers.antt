use Rattle.cause_laws.proofs.ServeCaused.{serve_caused}
use Rattle.cause_laws.proofs.laws.serve_is_caused.Goals as goal

pub returns : goal.returns
returns c = serve_caused
