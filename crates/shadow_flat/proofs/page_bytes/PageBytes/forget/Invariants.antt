use Rattle.std.proofs.Common.{◌≡◌, None, cond}
use Rattle.vm_types.specs.declared.names.Page.{Page}
use Rattle.pager_model.specs.FlatService.{is_private_in}
use Rattle.shadow_flat.specs.Kept.{kept}
use Rattle.shadow_flat.proofs.page_bytes.PageBytes.forget.Given as goal

-- the pages before k are forgotten
abbrev pub invariant-loop-k : goal.invariant-loop-k
invariant-loop-k l = (page : Page) → kept l.self page ≡ cond (is_private_in l.p.0 l.fn.at.0 l.k page) None (kept l.initial.self page)
