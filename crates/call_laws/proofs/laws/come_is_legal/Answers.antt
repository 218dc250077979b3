use Rattle.call_laws.proofs.ComeLegal.{come_legal}
use Rattle.call_laws.proofs.laws.come_is_legal.Goals as goal

pub returns : goal.returns
returns c = come_legal
