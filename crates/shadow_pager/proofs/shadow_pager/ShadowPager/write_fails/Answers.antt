use Rattle.std.proofs.Common.{Some, ap, ◌∙◌}
use Rattle.std.proofs.lemmas.Result.{on_ok_weaker}
use Rattle.pager_model.specs.OutLanding.{after_out_ok}
use Rattle.shadow_pager.specs.Shown.{Shown, with_pager}
use Rattle.shadow_pager.proofs.shadow_pager.ShadowPager.write_fails.Goals as goal

pub returns : goal.returns
returns c =
    on_ok_weaker c.write_lands.result
    (λ h x same. h x same ∙ ap (λ (s : Shown). with_pager s (after_out_ok s.pager c.args.f.0 (Some x))) c.mark.ensures)
    c.write_lands.ensures
