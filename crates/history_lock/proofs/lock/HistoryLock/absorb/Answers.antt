-- The two views are joined, and then it is settled which journal is the longer.
use Rattle.std.proofs.Common.{rules, ap}
use Rattle.history_lock.specs.Values.{of_box}
use Rattle.history_lock.proofs.Join.{joins, settles}
use Rattle.history_lock.proofs.lock.HistoryLock.absorb.Goals as goal

pub join_seat-requires : goal.join_seat-requires
join_seat-requires g c = (search rules, search rules, search rules, search rules, joins (of_box g.T.Kept.journal) (of_box g.T.Kept.base) _ _ _ _ _ _ c.requires.idle.0 c.requires.other_idle.0)

pub load-requires : goal.load-requires
load-requires g c = (search rules, search rules, settles (of_box g.T.Kept.journal) (of_box g.T.Kept.base) _ _ _ _ c.args.other.seat.me.0.seen c.args.pass.now.seat.me.0.numbers c.args.other.seat.me.0.numbers c.join_seat.new.seat.me (ap (λ m. m.0.stage) c.join_seat.ensures.2))
