use Rattle.std.proofs.Common.{◌↔◌, IsTrue, subst}
use Rattle.pager_model.specs.Order.{IsAnswered, IsInOrder}
use Rattle.shadow_history.specs.Standing.{Passed}
use Rattle.shadow_history.proofs.Standing.{answered_if_none}
use Rattle.shadow_history.proofs.shadow_history.ShadowHistory.is_answered.Goals as goal

pub returns : goal.returns
returns c =
    let s = c.self.inside in
    subst (λ (v : Passed). IsInOrder v.config v.past → IsTrue c.is_empty.result ↔ IsAnswered v.config v.past) c.self.view_is
    (answered_if_none s.config.now s.past.entries s.orders c.is_empty.result c.self.invariant.requests c.is_empty.ensures)
