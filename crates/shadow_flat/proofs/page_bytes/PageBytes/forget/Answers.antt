use Rattle.shadow_flat.proofs.Forgotten.{forgets_first, forgets_next}
use Rattle.shadow_flat.proofs.page_bytes.PageBytes.forget.Goals as goal

pub loop-k-init : goal.loop-k-init
loop-k-init c = forgets_first c.args.p c.args.at.0 _

pub loop-k-preserved : goal.loop-k-preserved
loop-k-preserved c = forgets_next c.args.p c.args.at.0 c.loop-k.k _ _ _ c.loop-k.invariant c.forget.ensures
