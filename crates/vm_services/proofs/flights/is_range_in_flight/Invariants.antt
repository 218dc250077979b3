use Rattle.std.proofs.Common.{◌≡◌, ◌+◌, ◌-◌, ◌/◌}
use Rattle.std.specs.List.{list_any, range_with_len}
use Rattle.vm_types.specs.declared.limits.TheConstants.{PAGE_BYTES}
use Rattle.pager_policy.specs.Serve.{is_range_in_flight}
use Rattle.vm_state.specs.History.{pager}
use Rattle.vm_services.specs.OwnFlights.{is_own_in_flight}
use Rattle.vm_services.proofs.flights.is_range_in_flight.Given as goal

-- it stands on the pages that are left
abbrev pub invariant-loop-n : goal.invariant-loop-n
invariant-loop-n g l =
    is_range_in_flight l.state.config l.state.past (pager l.state) l.p.0 l.fn.at.0 l.fn.pages
    ≡ list_any (is_own_in_flight l.state.config l.state.past (pager l.state) l.p.0) (range_with_len (l.fn.at.0 / PAGE_BYTES + l.n) (l.fn.pages - l.n))
