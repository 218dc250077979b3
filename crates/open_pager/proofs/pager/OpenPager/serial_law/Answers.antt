use Rattle.std.proofs.Common.{◌∙◌, ap, subst}
use Rattle.pager_policy.specs.Serial.{IsSerial}
use Rattle.serial_moves.specs.Controls.{control_in}
use Rattle.open_pager.specs.Open.{OpenView}
use Rattle.open_pager.proofs.OpenRuns.{is_serial}
use Rattle.open_pager.proofs.pager.OpenPager.serial_law.Goals as goal

pub returns : goal.returns
returns g c going =
    subst (λ (p : OpenView). IsSerial p.history.config p.history.past) c.self.view_is
    (is_serial c.self.inside.state (control_in c.self.inside.control) (c.self.invariant (ap (λ (p : OpenView). p.stopped) c.self.view_is ∙ going)).waits)
