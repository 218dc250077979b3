use Rattle.std.proofs.Common.{ap, length, nat_eq, ◌∙◌}
use Rattle.std.proofs.lemmas.List.Sums.{length-filter}
use Rattle.pager_model.specs.Pager.{Valid}
use Rattle.shadow_pager.specs.Shown.{shown}
use Rattle.shadow_pager.proofs.shadow_pager.ShadowPager.shares.Goals as goal

pub returns : goal.returns
unfolding shown
returns c = ap length c.of_frame.ensures ∙ length-filter (λ (e : Valid). nat_eq e.frame c.args.f.0) c.args.self.now.valid
