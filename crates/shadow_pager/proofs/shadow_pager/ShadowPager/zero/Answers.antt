use Rattle.std.proofs.Common.{◌∷◌, Some, refl, ap, ◌∙◌, true}
use Rattle.pager_model.specs.Sets.{at_number}
use Rattle.shadow_pager.specs.Shown.{shown}
use Rattle.shadow_pager.proofs.Same.{same_shown, same_pager}
use Rattle.shadow_pager.proofs.Tables.{set_faults, set_modify, set_page, set_placed, set_state}
use Rattle.shadow_pager.proofs.shadow_pager.ShadowPager.zero.Goals as goal

pub returns : goal.returns
unfolding shown
returns c =
    let s = c.args.self.now in
    let f = c.args.f.0 in
    let p = c.args.p.0 in
    same_shown _ (shown s) _ refl refl
    (same_pager _ _ (set_state s f c.requires.frame _) (set_page s f c.requires.frame (Some c.zeroed_page-page.result) _ c.in_ok-set.ensures.ok ∙ ap (at_number (shown s).pager.page f) (ap Some c.zeroed_page-page.ensures)) (set_modify s f c.requires.frame true) c.remove.ensures refl
    refl (set_placed s p c.requires.process _ _ _ _ c.index_mut-4.ensures.value c.index-2.ensures c.place.ensures) refl refl
    (set_faults s p c.requires.process _ _ c.index.ensures c.in_ok-self.ensures) refl
    refl c.in_ok-put.ensures (c.in_ok-put-2.ensures ∙ ap (λ g. g ∷ s.charged) c.zeroed_page-page.ensures) refl refl refl)
