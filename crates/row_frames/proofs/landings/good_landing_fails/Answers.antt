use Rattle.std.proofs.Common.{IsNone}
use Rattle.row_frames.proofs.Arrivals.{good_landing}
use Rattle.row_frames.proofs.landings.good_landing_fails.Goals as goal

pub returns-clause-legal : goal.returns-clause-legal
returns-clause-legal c = good_landing c.args.past.now.past c.args.seat.0 c.args.f.0 c.args.k (IsNone c.landing_fails.result) c.args.reads c.landing_fails.ensures.legal
