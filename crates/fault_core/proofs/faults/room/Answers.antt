use Rattle.std.proofs.Common.{sym, ◌∙◌}
use Rattle.pager_policy.specs.Advance.{again_charging}
use Rattle.fault_core.proofs.Comes.{uncharged}
use Rattle.fault_core.proofs.Firsts.{at_limit, below_limit, charging}
use Rattle.fault_core.proofs.Steps.{gives_as, refers_as, seeks_as, waits}
use Rattle.fault_core.proofs.faults.room.Goals as goal

pub is_charging-requires-after_bounds : goal.is_charging-requires-after_bounds
is_charging-requires-after_bounds g c κs within = uncharged c.args.state.now c.args.x c.requires.sought

pub returns-then-is_charging : goal.returns-then-is_charging
returns-then-is_charging g c = waits c.args.state.now (c.args.x).seat (c.args.x).r again_charging _ _ (charging c.args.state.now c.args.x (sym c.is_charging.ensures ∙ c.if-is_charging.true))

pub is_at_limit-requires-after_bounds : goal.is_at_limit-requires-after_bounds
is_at_limit-requires-after_bounds g c κs within = c.requires.refers.ready.seat_is.process

pub replace-requires-after_bounds : goal.replace-requires-after_bounds
replace-requires-after_bounds g c κs within =
    refers_as _ _ (at_limit c.args.state.now c.args.x (sym c.is_charging.ensures ∙ c.if-is_charging.false) (sym c.is_at_limit.ensures ∙ c.if-is_at_limit.true)) c.requires.refers

pub returns-then-is_at_limit : goal.returns-then-is_at_limit
returns-then-is_at_limit g c =
    gives_as _ _ (at_limit c.args.state.now c.args.x (sym c.is_charging.ensures ∙ c.if-is_charging.false) (sym c.is_at_limit.ensures ∙ c.if-is_at_limit.true)) c.replace.ensures

pub held-requires-after_bounds : goal.held-requires-after_bounds
held-requires-after_bounds g c κs within =
    seeks_as _ _ (below_limit c.args.state.now c.args.x (sym c.is_charging.ensures ∙ c.if-is_charging.false) (sym c.is_at_limit.ensures ∙ c.if-is_at_limit.false)) c.requires

pub returns-else-is_at_limit : goal.returns-else-is_at_limit
returns-else-is_at_limit g c =
    gives_as _ _ (below_limit c.args.state.now c.args.x (sym c.is_charging.ensures ∙ c.if-is_charging.false) (sym c.is_at_limit.ensures ∙ c.if-is_at_limit.false)) c.held.ensures
