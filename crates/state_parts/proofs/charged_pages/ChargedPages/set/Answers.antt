use Rattle.std.proofs.Common.{refl, ap}
use Rattle.state_parts.specs.ChargedTable.{ChargedTable}
use Rattle.state_parts.proofs.TableSet.{shared_set_at}
use Rattle.state_parts.proofs.charged_pages.ChargedPages.set.Goals as goal

pub returns-in-Shared : goal.returns-in-Shared
returns-in-Shared c =
    shared_set_at _ _ _ _ c.in-Shared.s c.in-Shared.i c.in-Shared.is c.requires (ap (λ (t : ChargedTable). t.procs) c.self.view_is) (ap (λ (t : ChargedTable). t.pages) c.self.view_is)
    c.self.inside.shared.items (ap (λ (t : ChargedTable). t.shared) c.self.view_is) c.index_mut.result.now c.set.new.self c.index_mut.ensures.value c.set.ensures refl
