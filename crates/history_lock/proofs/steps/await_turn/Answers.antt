-- Where the word shows the pass's ticket, the value is in the slot that the pass took.
use Rattle.std.proofs.Common.{rules, ap, ◌∙◌}
use Rattle.history_lock.specs.Values.{of_box}
use Rattle.history_lock.proofs.Boxed.{unboxed}
use Rattle.history_lock.proofs.Look.{looks}
use Rattle.history_lock.proofs.Entered.{slot_taken, slot_full, has_turn}
use Rattle.history_lock.proofs.steps.await_turn.Goals as goal

pub load-served-requires : goal.load-served-requires
load-served-requires g c = let w = c.requires.waits in (search rules, search rules, looks (of_box g.T.Kept.journal) (of_box g.T.Kept.base) _ _ _ _ w.0 c.loop.seat.me (ap (λ m. m.0.stage) c.loop.invariant.1 ∙ w.1))

pub exchange-requires : goal.exchange-requires
exchange-requires g c = let w = c.requires.waits in (search rules, slot_taken (of_box g.T.Kept.journal) (of_box g.T.Kept.base) _ _ _ w.0 _ _ c.loop.invariant.1 w.1 w.2 c.if-served-ticket.true c.load-served.ensures.2)

pub unwrap-value-requires : goal.unwrap-value-requires
unwrap-value-requires g c = let w = c.requires.waits in slot_full (of_box g.T.Kept.journal) (of_box g.T.Kept.base) _ _ _ w.0 _ _ c.loop.invariant.1 w.1 w.2 c.if-served-ticket.true c.load-served.ensures.2 _ c.exchange.ensures.2

pub returns-then-served-ticket-clause-known : goal.returns-then-served-ticket-clause-known
returns-then-served-ticket-clause-known g c = let w = c.requires.waits in
    unboxed g.T.Kept.journal g.T.Kept.base _ _ (has_turn (of_box g.T.Kept.journal) (of_box g.T.Kept.base) _ _ _ _ w.0 _ _ _ _ c.loop.invariant.1 w.1 w.2 c.requires.empty c.if-served-ticket.true c.load-served.ensures.2 c.exchange.ensures.2 c.unwrap-value.ensures c.exchange.ensures.3).0

pub returns-then-served-ticket-clause-holds : goal.returns-then-served-ticket-clause-holds
returns-then-served-ticket-clause-holds g c = let w = c.requires.waits in
    (w.0, (has_turn (of_box g.T.Kept.journal) (of_box g.T.Kept.base) _ _ _ _ w.0 _ _ _ _ c.loop.invariant.1 w.1 w.2 c.requires.empty c.if-served-ticket.true c.load-served.ensures.2 c.exchange.ensures.2 c.unwrap-value.ensures c.exchange.ensures.3).1)
