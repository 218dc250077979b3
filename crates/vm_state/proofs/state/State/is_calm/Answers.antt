use Rattle.std.proofs.Common.{not, refl, ap, ◌∙◌}
use Rattle.pager_model.specs.Flights.{awaits_reuse}
use Rattle.vm_state.specs.History.{History}
use Rattle.vm_state.proofs.Owed as due
use Rattle.vm_state.proofs.state.State.is_calm.Goals as goal

pub returns : goal.returns
returns g c = ap not (c.is_some.ensures ∙ due.waits c.self.invariant _ refl) ∙ ap (λ (s : History). not (awaits_reuse s.past)) c.self.view_is
