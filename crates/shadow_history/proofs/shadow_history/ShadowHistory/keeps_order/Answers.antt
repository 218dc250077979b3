use Rattle.std.proofs.Common.{◌≡◌, ◌∷◌, ◌↔◌, false, Some, None, IsTrue, refl, sym, ap, ◌∙◌, subst}
use Rattle.std.proofs.lemmas.Bool.{false≢true}
use Rattle.pager_model.specs.Order.{IsInOrder}
use Rattle.shadow_history.specs.Standing.{Passed}
use Rattle.shadow_history.proofs.Lefts.{same_Some}
use Rattle.shadow_history.proofs.Standing.{keeps_if_next, keeps_silent}
use Rattle.shadow_history.proofs.shadow_history.ShadowHistory.keeps_order.Goals as goal

pub returns-in_default : goal.returns-in_default
returns-in_default c = λ order. (λ so. keeps_silent c.args.self.now.config c.args.self.now.past c.args.e (cc) order, λ more. refl)

pub returns-in-Some-first : goal.returns-in-Some-first
returns-in-Some-first c =
    let s = c.self.inside in
    let next : Some c.in-Some-first.next ≡ _ = sym c.in-Some-first.is ∙ c.first.ensures in
    subst (λ (v : Passed). IsInOrder v.config v.past → IsTrue c.is_same.result ↔ IsInOrder v.config (c.args.e ∷ v.past)) c.self.view_is
    (keeps_if_next s.config.now s.past.entries c.args.e s.orders c.in-Some.request c.is_same.result c.self.invariant.requests (cc)
    (λ so. sym next ∙ ap Some (c.is_same.ensures.0 so)) (λ there. c.is_same.ensures.1 (same_Some _ _ (next ∙ there))))

pub returns-in-None : goal.returns-in-None
returns-in-None c =
    let s = c.self.inside in
    let none : None ≡ _ = sym c.in-None.is ∙ c.first.ensures in
    subst (λ (v : Passed). IsInOrder v.config v.past → IsTrue false ↔ IsInOrder v.config (c.args.e ∷ v.past)) c.self.view_is
    (keeps_if_next s.config.now s.past.entries c.args.e s.orders c.in-Some.request false c.self.invariant.requests (cc)
    (λ so. absurd (false≢true so)) (λ there. let never = none ∙ there in absurd (cc never)))
