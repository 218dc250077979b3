use Rattle.std.proofs.Common.{false, refl, ap, ◌∙◌}
use Rattle.pager_model.specs.Out.{assigned_with}
use Rattle.shadow_pager.specs.Shown.{shown}
use Rattle.shadow_pager.proofs.Same.{same_shown, same_pager}
use Rattle.shadow_pager.proofs.Tables.{set_modify, set_state}
use Rattle.shadow_pager.proofs.shadow_pager.ShadowPager.write_listed.Goals as goal

pub returns : goal.returns
unfolding shown
returns c =
    let s = c.args.self.now in
    let f = c.args.f.0 in
    same_shown _ (shown s) _ refl refl
    (same_pager _ _ (set_state s f c.requires _) refl (set_modify s f c.requires false) refl c.remove.ensures
    refl refl refl refl refl refl
    refl refl refl refl refl
    (c.in_ok-assign.ensures ∙ ap (λ o. assigned_with s.assigned o c.args.block) c.at.ensures))
