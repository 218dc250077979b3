use Rattle.call_laws.proofs.AdvanceLegal.{advance_legal}
use Rattle.call_laws.proofs.laws.advance_is_legal.Goals as goal

pub returns : goal.returns
returns c = λ config past p r ready formed_r few. advance_legal config past p r formed_r ready few
