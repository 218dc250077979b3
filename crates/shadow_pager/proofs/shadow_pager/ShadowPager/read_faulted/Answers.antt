use Rattle.std.proofs.Common.{refl, ap, ◌∙◌}
use Rattle.pager_model.specs.In.{charged_with}
use Rattle.pager_model.specs.Sets.{at_number}
use Rattle.shadow_pager.specs.Shown.{shown}
use Rattle.shadow_pager.proofs.Same.{same_shown, same_pager}
use Rattle.shadow_pager.proofs.Tables.{set_faults, set_page, set_state}
use Rattle.shadow_pager.proofs.shadow_pager.ShadowPager.read_faulted.Goals as goal

pub returns : goal.returns
unfolding shown
returns c =
    let s = c.args.self.now in
    let f = c.args.f.0 in
    let q = c.args.q.0 in
    same_shown _ (shown s) _ refl refl
    (same_pager _ _ (set_state s f c.requires.frame _)
    (set_page s f c.requires.frame c.page_of-page.result _ c.in_ok-set.ensures.ok ∙ ap (at_number ((shown s).pager.page) f) c.page_of-page.ensures) refl c.remove.ensures refl
    refl refl refl refl (set_faults s q c.requires.process _ _ c.index.ensures c.in_ok-self.ensures) refl
    refl refl (c.in_ok-charge.ensures ∙ ap (charged_with s.charged) c.page_of-page.ensures) refl refl refl)
