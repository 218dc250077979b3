use Rattle.std.proofs.Common.{ap, ◌∙◌}
use Rattle.vm_types.specs.declared.names.Page.TheVariants.{Private}
use Rattle.vm_state.specs.History.{History, pager}
use Rattle.vm_state.specs.PageReadings.{backing_in}
use Rattle.state_pages.proofs.Looked.{looked}
use Rattle.vm_state.proofs.PageShows as shows
use Rattle.vm_state.proofs.state.State.private_backing.Goals as goal

pub returns : goal.returns
returns g c =
    c.own_backing.ensures
    ∙ shows.own_is c.self.invariant c.args.p.0 c.args.vpn c.at-kept.result c.entry_in.result c.at-kept.ensures.value
    (looked c.self.inside.tables c.args.p.0 c.args.vpn c.look.result c.entry_in.result c.look.ensures.value c.entry_in.ensures)
    ∙ ap (λ (s : History). backing_in s.config (pager s) (Private c.args.p c.args.vpn)) c.self.view_is
