use Rattle.std.proofs.Common.{refl}
use Rattle.shadow_pager.specs.Shown.{shown}
use Rattle.shadow_pager.proofs.Same.{same_shown, same_pager}
use Rattle.shadow_pager.proofs.Tables.{set_placed, set_state}
use Rattle.shadow_pager.proofs.shadow_pager.ShadowPager.enter_ring.Goals as goal

pub returns : goal.returns
unfolding shown
returns c =
    let s = c.args.self.now in
    same_shown _ (shown s) _ refl refl
    (same_pager _ _ (set_state s c.args.f.0 c.requires.frame _) refl refl refl refl
    refl (set_placed s c.args.q.0 c.requires.process _ _ _ _ c.index_mut-2.ensures.value c.index.ensures c.place.ensures) refl refl refl refl
    refl c.in_ok-put.ensures refl refl refl refl)
