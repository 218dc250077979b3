use Rattle.std.proofs.Common.{◌≡◌, ℕ, filter}
use Rattle.std.specs.List.{range_with_len}
use Rattle.pager_model.specs.Flights.{open_flights}
use Rattle.pager_model.specs.Transfers.{is_in_flight}
use Rattle.state_dump.proofs.frames.frames_in_transfer.Given as goal

abbrev pub invariant-loop-f : goal.invariant-loop-f
invariant-loop-f g l = l.frames.items ≡ filter (λ (f : ℕ). is_in_flight f (open_flights l.state.past)) (range_with_len 0 l.f)
