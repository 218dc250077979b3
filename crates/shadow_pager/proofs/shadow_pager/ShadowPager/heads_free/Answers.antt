use Rattle.std.proofs.Common.{sym, ◌∙◌}
use Rattle.shadow_pager.proofs.Whole.{head_is, is_head}
use Rattle.shadow_pager.proofs.shadow_pager.ShadowPager.heads_free.Goals as goal

pub returns : goal.returns
returns c = (λ yes. head_is _ _ (sym c.free_head.ensures ∙ c.heads.ensures.0 yes), λ is. c.heads.ensures.1 (c.free_head.ensures ∙ is_head _ _ is))
