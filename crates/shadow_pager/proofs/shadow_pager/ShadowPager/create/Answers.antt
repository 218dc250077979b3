use Rattle.std.proofs.Common.{refl}
use Rattle.std.proofs.Math.Path.{fun_ext}
use Rattle.shadow_pager.specs.Shown.{shown}
use Rattle.shadow_pager.proofs.Same.{same_shown, same_pager}
use Rattle.shadow_pager.proofs.shadow_pager.ShadowPager.create.Goals as goal

pub returns : goal.returns
unfolding shown
returns c =
    same_shown _ (shown c.args.self.now) _ refl refl
    (same_pager _ _ refl refl refl refl refl refl refl refl refl refl refl
    (fun_ext (λ q. fun_ext (λ v. c.zero_range.ensures.pages q v))) refl refl refl refl refl)
