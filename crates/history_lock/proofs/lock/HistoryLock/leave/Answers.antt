-- The value goes back, the length is published, and the turn passes on.
use Rattle.std.proofs.Common.{rules, ap, ◌∙◌, sym, subst}
use Rattle.history_lock.specs.Known.{Adds}
use Rattle.history_lock.specs.Values.{of_box}
use Rattle.history_lock.proofs.Publish.{publishes}
use Rattle.history_lock.proofs.PassOn.{passes}
use Rattle.history_lock.proofs.Left.{counts, put, told}
use Rattle.history_lock.proofs.lock.HistoryLock.leave.Goals as goal

pub fetch_add-requires : goal.fetch_add-requires
fetch_add-requires g c = let turn = c.requires.turn in let now = put (of_box g.T.Kept.journal) (of_box g.T.Kept.base) c.args.pass.now.seat.me c.exchange.new.seat.me c.args.turn.value turn.2 c.exchange.ensures.3 in (
  search rules,
  search rules,
  publishes (of_box g.T.Kept.journal) (of_box g.T.Kept.base) _ _ _ _ turn.0 _ c.exchange.new.seat.me c.args.turn.value (ap (λ m. m.0.stage) now ∙ turn.1) (ap (λ m. m.1) now)
      (subst (λ v. Adds v (g.T.Kept.journal c.args.turn.value.value)) (ap (λ m. m.0) (sym now)) c.requires.adds)
      (counts c.args.pass.now.seat.me.0 c.exchange.new.seat.me.0 c.args.turn.found _ _ (ap (λ m. m.0) now) c.requires.adds turn.3 (c.entries.ensures ∙ ap g.T.Kept.journal c.deref.ensures)),
)

pub fetch_add-requires-2 : goal.fetch_add-requires-2
fetch_add-requires-2 g c = let turn = c.requires.turn in
    let now = told (of_box g.T.Kept.journal) (of_box g.T.Kept.base) c.args.pass.now.seat.me c.exchange.new.seat.me c.fetch_add.new.seat.me c.args.turn.value turn.0 c.fetch_add.result turn.1 turn.2 c.exchange.ensures.3 c.fetch_add.ensures.2 in (
      search rules,
      search rules,
      passes (of_box g.T.Kept.journal) (of_box g.T.Kept.base) _ _ _ _ turn.0 c.fetch_add.new.seat.me c.args.turn.value (ap (λ m. m.0.stage) now) (ap (λ m. m.1) now) (ap (λ m. m.0.seen) now) (ap (λ m. m.0.base) now ∙ c.requires.base),
    )
