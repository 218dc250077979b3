use Rattle.std.proofs.Common.{ℕ, refl, ap, ◌∙◌}
use Rattle.pager_model.specs.Back.{block_slot, lies_of}
use Rattle.pager_model.specs.Maps.{page_number}
use Rattle.pager_model.specs.Ring.{slotted}
use Rattle.pager_model.specs.Sets.{at_number}
use Rattle.shadow_tables.specs.Lying.{lies_by}
use Rattle.shadow_pager.specs.Shown.{shown, with_pager}
use Rattle.shadow_pager.proofs.Same.{same_pager}
use Rattle.shadow_pager.proofs.shadow_pager.ShadowPager.back_coming.Goals as goal

pub returns : goal.returns
unfolding shown
returns c =
    let s = c.args.self.now in
    let q = c.args.q.0 in
    let v = page_number c.args.a.0 in
    let ring = (shown s).pager.ring in
    let slot = c.slot_lying-slot.ensures ∙ ap (λ o. block_slot (lies_of (lies_by s.lies) o)) c.at.ensures in
    c.in_ok-enter_slot.ensures
    ∙ ap (with_pager (shown s)) (same_pager _ _ refl refl refl c.remove.ensures refl
    refl (ap (λ (n : ℕ). at_number ring q (slotted (ring q) n v)) slot) refl refl refl refl refl refl refl refl refl refl)
