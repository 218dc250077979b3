use Rattle.call_laws.proofs.LeaveLegal.{leave_legal}
use Rattle.call_laws.proofs.laws.leave_is_legal.Goals as goal

pub returns : goal.returns
returns c = leave_legal
