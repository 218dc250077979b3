use Rattle.std.proofs.Common.{false, refl, ap, ◌∙◌}
use Rattle.pager_model.specs.InOk.{is_first_read}
use Rattle.pager_model.specs.Sets.{at_number}
use Rattle.shadow_pager.specs.Shown.{at_or, shown, with_pager}
use Rattle.shadow_pager.proofs.Same.{same_pager}
use Rattle.shadow_pager.proofs.Tables.{set_modify}
use Rattle.shadow_pager.proofs.shadow_pager.ShadowPager.fault_lands.Goals as goal

pub returns : goal.returns
unfolding shown
returns c =
    let s = c.args.self.now in
    let f = c.args.f.0 in
    let first = set_modify s f c.requires.frame c.is_first.result ∙ ap (at_number (at_or false s.marks.items) f) (c.is_first.ensures ∙ ap (λ o. is_first_read o c.args.block) c.at.ensures) in
    c.in_ok-enter_ring.ensures
    ∙ ap (with_pager (shown s)) (same_pager _ _ refl refl first refl refl refl refl refl refl refl refl refl refl refl refl refl refl)
