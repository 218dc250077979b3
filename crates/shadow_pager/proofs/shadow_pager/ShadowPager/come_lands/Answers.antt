use Rattle.std.proofs.Common.{ℕ, ap, ◌∙◌}
use Rattle.shadow_pager.specs.Entering.{in_slot}
use Rattle.shadow_pager.specs.Shown.{shown, with_pager}
use Rattle.shadow_pager.proofs.shadow_pager.ShadowPager.come_lands.Goals as goal

pub returns : goal.returns
unfolding shown
returns c =
    let s = c.args.self.now in
    c.in_ok-enter_slot.ensures
    ∙ ap (λ (n : ℕ). with_pager (shown s) (in_slot (shown s).pager c.args.q.0 c.args.a.0 c.args.f.0 n)) c.slot_of.ensures
