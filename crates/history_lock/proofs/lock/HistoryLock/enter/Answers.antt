-- The pass takes a ticket and waits with it.
use Rattle.std.proofs.Common.{rules, ap, ◌∙◌}
use Rattle.history_lock.specs.Values.{of_box}
use Rattle.history_lock.proofs.Ticket.{takes_ticket}
use Rattle.history_lock.proofs.lock.HistoryLock.enter.Goals as goal

pub fetch_add-ticket-requires : goal.fetch_add-ticket-requires
fetch_add-ticket-requires g c = (search rules, search rules, takes_ticket (of_box g.T.Kept.journal) (of_box g.T.Kept.base) _ _ _ _ c.await_free.new.seat.me (ap (λ m. m.0.stage) c.await_free.ensures.same ∙ c.requires.idle.0))
