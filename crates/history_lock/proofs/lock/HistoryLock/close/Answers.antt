-- The rule's last state has the value at home.
use Rattle.std.proofs.Common.{ap, ◌∙◌, sym, subst}
use Rattle.history_lock.specs.Known.{Known}
use Rattle.history_lock.specs.Passes.{view}
use Rattle.history_lock.specs.Values.{of_box}
use Rattle.history_lock.proofs.Boxed.{unboxed}
use Rattle.history_lock.proofs.Ends.{slot_full, known}
use Rattle.history_lock.proofs.lock.HistoryLock.close.Goals as goal

pub unwrap-requires : goal.unwrap-requires
unwrap-requires g c = slot_full (of_box g.T.Kept.journal) (of_box g.T.Kept.base) _ _ _ _ _ _ _ c.close_with-closed.ensures.values.2 c.requires.idle.0 c.requires.all c.take-value.ensures.value

pub returns-clause-known : goal.returns-clause-known
returns-clause-known g c = subst (λ value. Known g.T.Kept.journal g.T.Kept.base value (view c.args.pass)) (sym c.into_inner.ensures)
    (unboxed g.T.Kept.journal g.T.Kept.base _ _ (known (of_box g.T.Kept.journal) (of_box g.T.Kept.base) _ _ _ _ _ _ _ _ c.close_with-closed.ensures.values.2 c.requires.idle.0 c.requires.all c.take-value.ensures.value c.unwrap.ensures).0)

pub returns-clause-whole : goal.returns-clause-whole
returns-clause-whole g c = ap g.T.Kept.journal c.into_inner.ensures
    ∙ (known (of_box g.T.Kept.journal) (of_box g.T.Kept.base) _ _ _ _ _ _ _ _ c.close_with-closed.ensures.values.2 c.requires.idle.0 c.requires.all c.take-value.ensures.value c.unwrap.ensures).1
