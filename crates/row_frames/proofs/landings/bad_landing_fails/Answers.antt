use Rattle.std.proofs.Common.{IsNone, refl, sym}
use Rattle.std.proofs.lemmas.Bool.{false≢true}
use Rattle.row_frames.proofs.Arrivals.{bad_lands, bad_landing}
use Rattle.row_frames.proofs.landings.bad_landing_fails.Goals as goal

pub returns-in-Some-clause-legal : goal.returns-in-Some-clause-legal
returns-in-Some-clause-legal c = (
  λ t. absurd (false≢true (sym t)),
  λ v. c.in-Some.ensures.legal.1 (bad_lands c.args.past.now.past c.args.seat.0 c.args.f.0 c.args.k c.args.c c.args.d c.args.reads v),
)

pub returns-clause-legal : goal.returns-clause-legal
returns-clause-legal c =
    bad_landing c.args.past.now.past c.args.seat.0 c.args.f.0 c.args.k c.args.c c.args.d (IsNone c.counted_fails.result) c.counted_fails.ensures.legal c.args.reads (c.in_default.ensures.legal.0 refl)
