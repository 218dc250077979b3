use Rattle.std.proofs.Common.{ap, ◌∙◌}
use Rattle.vm_state.specs.History.{History, pager}
use Rattle.vm_state.specs.PageReadings.{found_in}
use Rattle.state_pages.proofs.Looked.{looked}
use Rattle.vm_state.proofs.PageShows as shows
use Rattle.vm_state.proofs.state.State.found.Goals as goal

pub returns : goal.returns
returns g c =
    c.found_shown.ensures
    ∙ shows.found_is c.self.invariant c.args.p.0 c.args.vpn c.behind-from.result c.entry_in-entry.result c.behind-from.ensures
    (looked c.self.inside.tables c.args.p.0 c.args.vpn c.look.result c.entry_in-entry.result c.look.ensures.value c.entry_in-entry.ensures)
    ∙ ap (λ (s : History). found_in s.config (pager s) c.args.p.0 c.args.vpn) c.self.view_is
