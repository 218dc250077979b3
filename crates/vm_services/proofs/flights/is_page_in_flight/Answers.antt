use Rattle.std.proofs.Common.{sym, ap, ◌∙◌}
use Rattle.std.specs.Option.{is_some}
use Rattle.vm_types.specs.declared.names.Page.TheVariants.{Private}
use Rattle.pager_model.specs.Forget.{holder}
use Rattle.vm_state.specs.History.{pager}
use Rattle.state_pages.specs.declared.found.Backing.{Backing}
use Rattle.vm_services.proofs.RangeTests.{held_within, page_flies}
use Rattle.call_begins.proofs.ReadySeats.{frame_some}
use Rattle.vm_services.proofs.flights.is_page_in_flight.Goals as goal

pub flight-requires-after_bounds : goal.flight-requires-after_bounds
flight-requires-after_bounds g c κs within =
    held_within c.args.state.now.config c.args.state.now.past (Private c.args.p c.args.vpn) (c.in-Some.f).0 c.run_law.ensures.formed c.run_law.ensures.run
    (frame_some c.in-Some.f (holder c.args.state.now.config (pager c.args.state.now).page (Private c.args.p c.args.vpn)) (sym c.in-Some.is ∙ ap (λ (x : Backing). x.frame) c.backing.ensures))

pub returns-in-Some : goal.returns-in-Some
returns-in-Some g c =
    c.is_some.ensures ∙ (ap is_some c.flight.ensures
    ∙ sym (page_flies c.args.state.now.config c.args.state.now.past (pager c.args.state.now) (Private c.args.p c.args.vpn) (c.in-Some.f).0
    (frame_some c.in-Some.f (holder c.args.state.now.config (pager c.args.state.now).page (Private c.args.p c.args.vpn)) (sym c.in-Some.is ∙ ap (λ (x : Backing). x.frame) c.backing.ensures))))
