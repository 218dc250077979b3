use Rattle.call_laws.proofs.WritesLegal.{begin_legal}
use Rattle.call_laws.proofs.laws.begin_is_legal.Goals as goal

pub returns : goal.returns
returns c = begin_legal
