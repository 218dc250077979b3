use Rattle.std.proofs.Common.{ap, ◌∙◌}
use Rattle.std.specs.Option.{option_map}
use Rattle.pager_model.specs.Lookups.{entry_of}
use Rattle.vm_state.specs.History.{History, pager}
use Rattle.vm_state.specs.PageReadings.{frame_of}
use Rattle.state_pages.proofs.Looked.{frame_looked}
use Rattle.vm_state.proofs.PageShows as shows
use Rattle.vm_state.proofs.state.State.valid_frame.Goals as goal

pub returns : goal.returns
returns g c =
    c.frame_in.ensures
    ∙ frame_looked c.self.inside.tables c.args.p.0 c.args.vpn c.look.result c.look.ensures.value
    ∙ shows.frame_is c.self.invariant c.args.p.0 c.args.vpn
    ∙ ap (λ (s : History). option_map frame_of (entry_of (pager s).valid c.args.p.0 c.args.vpn)) c.self.view_is
