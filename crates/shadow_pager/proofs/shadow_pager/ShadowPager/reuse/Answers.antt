use Rattle.std.proofs.Common.{◌∷◌, refl, false, ap, ◌∙◌}
use Rattle.pager_model.specs.Flights.{failed_flight}
use Rattle.shadow_pager.specs.Shown.{shown}
use Rattle.shadow_pager.proofs.Same.{same_shown, same_pager}
use Rattle.shadow_pager.proofs.Tables.{set_modify, set_page, set_state}
use Rattle.shadow_pager.proofs.shadow_pager.ShadowPager.reuse.Goals as goal

pub returns : goal.returns
unfolding shown
returns c = λ past failed.
    let s = c.args.self.now in
    let f = c.args.f.0 in
    same_shown _ (shown s) _ refl refl
    (same_pager _ _ (set_state s f c.requires _) (set_page s f c.requires _ _ c.in_ok-set.ensures.ok) (set_modify s f c.requires false)
    (c.in_ok-put.ensures ∙ ap (λ xs. f ∷ xs) c.remove.ensures) refl
    refl refl refl refl refl refl
    refl refl (c.in_ok-uncharge.ensures (failed_flight past) failed) refl refl refl)
