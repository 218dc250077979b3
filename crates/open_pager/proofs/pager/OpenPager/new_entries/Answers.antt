use Rattle.std.proofs.Common.{◌∙◌, ap, drop, reverse}
use Rattle.open_pager.specs.Open.{OpenView}
use Rattle.open_pager.proofs.pager.OpenPager.new_entries.Goals as goal

pub returns : goal.returns
returns g c going =
    c.rest_of.ensures ∙ (ap (drop c.self.inside.taken) (c.entries.ensures (c.self.invariant (ap (λ (p : OpenView). p.stopped) c.self.view_is ∙ going)).keeps)
    ∙ ap (λ (p : OpenView). drop p.taken (reverse p.history.past)) c.self.view_is)
