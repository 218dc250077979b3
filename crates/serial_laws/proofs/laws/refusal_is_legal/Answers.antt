use Rattle.serial_laws.proofs.LegalRefusals.{refusal_legal}
use Rattle.serial_laws.proofs.laws.refusal_is_legal.Goals as goal

pub returns : goal.returns
returns c = refusal_legal
