use Rattle.shadow_flat.proofs.Told.{first_kept}
use Rattle.shadow_flat.proofs.page_bytes.PageBytes.new.Goals as goal

pub returns : goal.returns
returns c = first_kept _ _ c.in_ok-new.ensures
