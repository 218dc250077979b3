use Rattle.std.proofs.Common.{refl, ap, ◌∙◌}
use Rattle.pager_model.specs.Changes.{pushed_if}
use Rattle.shadow_pager.specs.Shown.{shown}
use Rattle.shadow_pager.proofs.Same.{same_shown, same_pager}
use Rattle.shadow_pager.proofs.Tables.{set_evicted, set_state}
use Rattle.shadow_pager.proofs.shadow_pager.ShadowPager.evict.Goals as goal

pub returns : goal.returns
unfolding shown
returns c =
    let s = c.args.self.now in
    let f = c.args.f.0 in
    let p = c.args.p.0 in
    same_shown _ (shown s) _ refl refl
    (same_pager _ _ (set_state s f c.requires.frame _) refl refl
    (c.in_ok-push_if.ensures ∙ ap (λ b. pushed_if b s.free f) c.is_free.ensures)
    (c.in_ok-add_if.ensures ∙ ap (λ b. pushed_if b s.modified.items f) c.is_modified.ensures)
    refl (set_evicted s p c.requires.process _ _ _ _ _ c.index_mut-2.ensures.value c.index.ensures c.evict.ensures) refl refl refl refl
    refl c.in_ok-remove.ensures refl refl refl refl)
