use Rattle.seat_laws.proofs.Refusable.{refusal_legal}
use Rattle.seat_laws.proofs.laws.lost_is_refused.Goals as goal

pub returns : goal.returns
returns c = refusal_legal
