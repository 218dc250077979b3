-- Each entry of the landings of a carrier takes one of the spare ones.
use Rattle.std.proofs.Common.{◌≡◌, ℕ, Bool, true, false, ◌+◌, ◌*◌, ◌≤◌, List, [], ◌∷◌, length, map, filter, refl, sym, ap, ◌∙◌, arith}
use Rattle.std.proofs.lemmas.List.{length-map, length-reverse}
use Rattle.std.proofs.lemmas.List.Sums.{count_by-le-length, length-filter}
use Rattle.vm_types.specs.declared.names.Page.{Page}
use Rattle.vm_types.specs.declared.names.Seat.{Seat}
use Rattle.vm_journal.specs.declared.entry.What.{What}
use Rattle.pager_model.specs.Flights.{open_flights, carrier_of}
use Rattle.pager_model.specs.Transfers.{is_by}
use Rattle.frame_store.specs.LiftView.{LiftView}
use Rattle.frame_store.specs.declared.lift.Carried.{Carried}
use Rattle.frame_store.specs.declared.lift.Carried.TheVariants.{Waiting, Good, Bad}
use Rattle.vm_state.specs.History.{History, added, entry_by, owed}
use Rattle.vm_state.specs.LiftsLand.{added_each, landed_each, landings_of, reuse_after}
use Rattle.call_begins.specs.Lifted.{place_of}
use Rattle.carried_landings.specs.SeatFlights.{flight_place}

paid_each : (seat : Seat) (ws : List What) (s : History) → length ws ≤ s.spare → ((added_each seat ws s).spare + length ws ≡ s.spare) × (length (added_each seat ws s).past ≡ length s.past + length ws)
paid_each seat [] s room = (omega arith, omega arith)
paid_each seat (w ∷ ws) s room =
    let rest = paid_each seat ws (added s (entry_by seat w)) (omega (arith, room)) in
    let spare = rest.0 in
    let past = rest.1 in (omega (arith, spare, room), omega (arith, past))

one_at_most : (is_read : Bool) (r : Carried) (f : ℕ) (g : Page) → length (reuse_after is_read r f g) ≤ 1
one_at_most true Waiting f g = omega arith
one_at_most true Good f g = omega arith
one_at_most true (Bad before after) f g = omega arith
one_at_most false r f g = omega arith

module _ {B : Type 0} (seat : Seat) where
  pub paid_lifts : (lifts : List (LiftView B)) (s : History) → 2 * length lifts ≤ s.spare → (landed_each seat lifts s).spare + length (landed_each seat lifts s).past ≡ s.spare + length s.past
  paid_lifts [] s room = refl
  paid_lifts (lift ∷ lifts) s room =
      let few = one_at_most lift.is_read lift.result lift.frame lift.page in
      let now = paid_each seat (landings_of lift) s (omega (arith, room, few)) in
      let spare = now.0 in
      let past = now.1 in
      let rest = paid_lifts lifts (added_each seat (landings_of lift) s) (omega (arith, room, few, spare)) in
      omega (arith, rest, spare, past)

  -- a carrier's landings are due
  pub paid_carrier : (lifts : List (LiftView B)) (s : History) → map flight_place (carrier_of seat.0 s.past) ≡ map place_of lifts → owed s.past ≤ s.spare → 2 * length lifts ≤ s.spare
  paid_carrier lifts s whole paid =
      let same : length (carrier_of seat.0 s.past) ≡ length lifts = sym (length-map (carrier_of seat.0 s.past) flight_place) ∙ (ap length whole ∙ length-map lifts place_of) in
      let turned = length-reverse (filter (is_by seat.0) (open_flights s.past)) in
      let kept = length-filter (is_by seat.0) (open_flights s.past) in
      let most = count_by-le-length (is_by seat.0) (open_flights s.past) in
      omega (arith, same, turned, kept, most, paid)
