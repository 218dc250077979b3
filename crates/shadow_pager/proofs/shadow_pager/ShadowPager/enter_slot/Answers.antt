use Rattle.std.proofs.Common.{refl, true, ap, ◌∙◌}
use Rattle.pager_model.specs.Changes.{lies_nowhere}
use Rattle.shadow_tables.specs.Lying.{lies_by}
use Rattle.shadow_pager.specs.Shown.{shown}
use Rattle.shadow_pager.proofs.Same.{same_shown, same_pager}
use Rattle.shadow_pager.proofs.Tables.{set_modify, set_slotted, set_state}
use Rattle.shadow_pager.proofs.shadow_pager.ShadowPager.enter_slot.Goals as goal

pub returns : goal.returns
unfolding shown
returns c =
    let s = c.args.self.now in
    let f = c.args.f.0 in
    same_shown _ (shown s) _ refl refl
    (same_pager _ _ (set_state s f c.requires.frame _) refl (set_modify s f c.requires.frame true) refl refl
    refl (set_slotted s c.args.q.0 c.requires.process _ _ _ _ _ c.index_mut-3.ensures.value c.put-2.ensures refl)
    refl refl refl refl
    refl c.in_ok-put.ensures refl refl
    (c.in_ok-lay_nowhere.ensures ∙ ap (lies_nowhere (lies_by s.lies)) c.at.ensures) refl)
