use Rattle.std.proofs.Common.{◌<◌, length, ap, sym, subst, ◌∙◌}
use Rattle.vm_state.specs.History.{History, pager}
use Rattle.vm_state.specs.ProcessReadings.{slot_in}
use Rattle.state_pages.proofs.Looked.{frame_looked}
use Rattle.vm_state.proofs.ProcessShows as shows
use Rattle.vm_state.proofs.state.State.slot.Goals as goal

pub returns-in_err-frame : goal.returns-in_err-frame
returns-in_err-frame g c =
    c.from_residual-in_err-frame.ensures
    ∙ shows.slot_none c.self.invariant c.args.p.0 c.args.n c.in_ok-vpn.vpn c.in_ok-vpn.locked c.in_ok-vpn.pinned c.index.result.now (subst (λ (s : History). c.args.p.0 < length s.config.procs) (sym c.self.view_is) c.requires) c.index.ensures c.in_ok-vpn.ensures
    (c.in_err-frame.ensures ∙ frame_looked c.self.inside.tables c.args.p.0 c.in_ok-vpn.vpn c.look.result c.look.ensures.value)
    ∙ ap (λ (s : History). slot_in (pager s) c.args.p.0 c.args.n) c.self.view_is

pub returns : goal.returns
returns g c =
    shows.slot_some c.self.invariant c.args.p.0 c.args.n c.in_ok-vpn.vpn c.in_ok-vpn.locked c.in_ok-vpn.pinned c.in_ok-frame.frame c.index.result.now (subst (λ (s : History). c.args.p.0 < length s.config.procs) (sym c.self.view_is) c.requires) c.index.ensures c.in_ok-vpn.ensures
    (c.in_ok-frame.ensures ∙ frame_looked c.self.inside.tables c.args.p.0 c.in_ok-vpn.vpn c.look.result c.look.ensures.value)
    ∙ ap (λ (s : History). slot_in (pager s) c.args.p.0 c.args.n) c.self.view_is
