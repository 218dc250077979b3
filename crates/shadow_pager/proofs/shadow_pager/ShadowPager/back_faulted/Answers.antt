use Rattle.std.proofs.Common.{refl, ap, ◌∙◌}
use Rattle.shadow_pager.specs.Shown.{shown, with_pager}
use Rattle.shadow_pager.proofs.Same.{same_pager}
use Rattle.shadow_pager.proofs.Tables.{set_faults}
use Rattle.shadow_pager.proofs.shadow_pager.ShadowPager.back_faulted.Goals as goal

pub returns : goal.returns
unfolding shown
returns c =
    let s = c.args.self.now in
    c.in_ok-enter_ring.ensures
    ∙ ap (with_pager (shown s)) (same_pager _ _ refl refl refl c.remove.ensures c.remove-2.ensures refl refl refl refl
    (set_faults s c.args.q.0 c.requires.process _ _ c.index.ensures c.in_ok-self.ensures) refl refl refl refl refl refl refl)
