use Rattle.std.proofs.Common.{◌∙◌, ap, nat_lt}
use Rattle.pfn_database.specs.declared.row.Row.{Row}
use Rattle.pager_model.specs.Flights.{open_flights}
use Rattle.state_fits.proofs.FrameRows.{row_is}
use Rattle.vm_state.specs.History.{pager}
use Rattle.state_dump.proofs.frames.is_busy.Goals as goal

pub returns : goal.returns
returns g c =
    let s = c.args.state.now in
    let a = pager c.args.state.now in
    ap (λ (row : Row). nat_lt 0 row.flights) (c.frame.ensures ∙ row_is a.state a.page a.modify a.valid a.ring (open_flights s.past) (c.args.f).0)
