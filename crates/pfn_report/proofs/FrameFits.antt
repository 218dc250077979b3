-- A frame's line, by its row in the PFN database, its shares and its transfer.
use Rattle.std.proofs.Common.{◌≡◌, ℕ, ◌+◌, ◌≤◌, cond, List, Option, Some, None, count_by, refl, arith}
use Rattle.std.specs.Prelude.{is_some}
use Rattle.std.specs.Option.{option_map}
use Rattle.vm_types.specs.Configuration.{IsWellFormed}
use Rattle.vm_types.specs.declared.config.Config.{Config}
use Rattle.vm_journal.specs.declared.entry.Entry.{Entry}
use Rattle.pager_model.specs.Around.{past_view}
use Rattle.pager_model.specs.Flights.{Flight, open_flights}
use Rattle.pager_model.specs.Run.{IsRun, pager_after}
use Rattle.pager_model.specs.Transfers.{reads_on, writes_on}
use Rattle.pager_rules.proofs.Basics.{count_from_no_find}
use Rattle.pager_rules.proofs.Lists.{count_found, found_passes}
use Rattle.pager_laws.proofs.RunsAreSound.{run_kept}
use Rattle.state_fits.specs.Seats.{flight_on, is_on_frame, start_on}
use Rattle.state_fits.proofs.FlightsMoved.{on_frame_counts, one_on_frame}

-- a frame with a transfer has one
pub one_flight : (config : Config) (past : List Entry) (f : ℕ) → IsWellFormed config → IsRun config past
    → cond (is_some (start_on f (open_flights past))) 1 0 ≡ reads_on f (open_flights past) + writes_on f (open_flights past)
one_flight config past f formed run = go (flight_on f flights) refl
  where
    flights : List Flight
    flights = open_flights past

    few : count_by (is_on_frame f) flights ≤ 1
    few = one_on_frame config (past_view past) (pager_after config past) f (run_kept config past formed run)

    go : (o : Option Flight) → flight_on f flights ≡ o → cond (is_some (option_map (λ (x : Flight). x.start) o)) 1 0 ≡ reads_on f flights + writes_on f flights
    go None is = omega (arith, on_frame_counts f flights, count_from_no_find (is_on_frame f) flights is)
    go (Some x) is = omega (arith, on_frame_counts f flights, few, count_found (is_on_frame f) (is_on_frame f) flights x is (found_passes (is_on_frame f) flights x is))
