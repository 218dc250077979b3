-- The pass is counted while it sleeps, and is as before once it is counted no longer.
use Rattle.std.proofs.Common.{rules, ap, ◌∙◌}
use Rattle.history_lock.specs.Values.{of_box}
use Rattle.history_lock.proofs.Asleep.{sleeps_next, rises, as_before}
use Rattle.history_lock.proofs.steps.await_free.Goals as goal

pub fetch_add-requires : goal.fetch_add-requires
fetch_add-requires g c = (search rules, search rules, sleeps_next (of_box g.T.Kept.journal) (of_box g.T.Kept.base) _ _ _ _ c.loop.seat.me (ap (λ m. m.0.stage) c.loop.invariant.1 ∙ c.requires.idle))

pub fetch_sub-requires : goal.fetch_sub-requires
fetch_sub-requires g c = (search rules, search rules, rises (of_box g.T.Kept.journal) (of_box g.T.Kept.base) _ _ _ _ c.fetch_add.new.seat.me (ap (λ m. m.0.stage) c.fetch_add.ensures.2))

pub loop-preserved : goal.loop-preserved
loop-preserved g c = (search rules, as_before _ _ _ _ c.loop.invariant.1 c.requires.idle c.fetch_add.ensures.2 c.fetch_sub.ensures.2)
