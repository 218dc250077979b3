use Rattle.std.proofs.Common.{◌≡◌, ◌+◌, ◌<◌, ℕ, true, Some}
use Rattle.vm_types.specs.declared.names.Page.TheVariants.{Private}
use Rattle.pager_model.specs.FlatService.{in_range}
use Rattle.pager_model.specs.Flights.{open_flights}
use Rattle.pager_model.specs.Maps.{proc}
use Rattle.pager_model.specs.Transfers.{reads_on, writes_on}
use Rattle.shadow_pager.specs.Shown.{shown}
use Rattle.row_requests.proofs.ranges.none_flies.Given as goal

-- none of the frames so far with a page of the range has a flight
abbrev pub invariant-loop-f : goal.invariant-loop-f
invariant-loop-f l =
    (v f : ℕ) → f < l.f → in_range l.range.at.0 l.range.pages v ≡ true → (shown l.pager).pager.page f ≡ Some (Private (proc l.range.process.0) v)
    → reads_on f (open_flights l.past.past) + writes_on f (open_flights l.past.past) ≡ 0
