use Rattle.std.proofs.Common.{None, Option, ap, ◌∙◌}
use Rattle.pager_model.specs.Forget.{remapped}
use Rattle.pager_model.specs.Maps.{Mapped}
use Rattle.shadow_pager.specs.Shown.{Shown, with_pager}
use Rattle.shadow_pager.proofs.shadow_pager.ShadowPager.delete.Goals as goal

pub returns : goal.returns
returns c =
    c.unmap.ensures
    ∙ ap (λ (t : Shown). with_pager t (remapped (λ (old : Option Mapped). None) c.args.p.0 c.args.at.0 c.args.pages t.pager)) c.in_ok-forget_range.ensures
