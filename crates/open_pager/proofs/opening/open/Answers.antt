use Rattle.std.proofs.Common.{◌∙◌, ap, length}
use Rattle.std.proofs.lemmas.List.{take_at}
use Rattle.vm_state.specs.History.{History}
use Rattle.open_pager.proofs.OpenRuns.{first_ready, is_opened, opens}
use Rattle.open_pager.proofs.opening.open.Goals as goal

pub settle-requires-clause-open_there : goal.settle-requires-clause-open_there
settle-requires-clause-open_there g c κs within =
    opens c.in_ok-state.state c.args.config (ap (λ (x : History). x.config) c.in_ok-state.ensures) (ap (λ (x : History). x.past) c.in_ok-state.ensures) c.requires.formed c.first_control_fits.ensures.first

pub invariant_of-result : goal.invariant_of-result
invariant_of-result g c going =
    let same = c.in_ok-control.ensures.carriers in
    first_ready c.in_ok-state.state c.settle.new.state c.in_ok-control.control c.in_ok-carriers.carriers.items _ (ap (λ (x : History). x.keeps) c.in_ok-state.ensures) c.in_ok-control.ensures.same c.in_ok-control.ensures.waits c.in_ok-carriers.ensures
    (take_at c.settle.new.carriers _ _ (ap length same ∙ c.deref_mut.ensures.len) ∙ (same ∙ c.deref_mut.ensures.value))

pub returns-clause-opened : goal.returns-clause-opened
returns-clause-opened g c =
    is_opened c.args.config c.in_ok-state.state c.settle.new.state c.in_ok-control.control (ap (λ (x : History). x.config) c.in_ok-state.ensures) c.in_ok-control.ensures.same c.in_ok-control.ensures.waits
