-- What a seat's own call leaves of its work.
use Rattle.std.proofs.Common.{◌≡◌, ◌+◌, ◌++◌, false, List, [], ◌∷◌, Some, filter, map, refl, sym, ap, ◌∙◌, subst}
use Rattle.std.proofs.lemmas.Option.{none-some}
use Rattle.vm_types.specs.BlockView.{BlockView, Tells}
use Rattle.vm_types.specs.WellFormed.{IsWellFormedReference}
use Rattle.vm_types.specs.declared.names.Seat.{Seat}
use Rattle.vm_types.specs.declared.reference.Ref.{Ref}
use Rattle.vm_journal.specs.declared.entry.What.{What}
use Rattle.frame_store.specs.LiftView.{LiftView}
use Rattle.pager_model.specs.Flights.{Flight, awaits_reuse, carrier_of}
use Rattle.pager_model.specs.Transfers.{is_by}
use Rattle.vm_state.specs.History.{History}
use Rattle.vm_state.specs.LiftsLand.{added_each}
use Rattle.call_begins.specs.Lifted.{HasLifts, place_of, places_in}
use Rattle.carried_landings.specs.SeatFlights.{flight_place}
use Rattle.carried_landings.proofs.BegunFlights.{carrier_made}
use Rattle.carried_landings.proofs.Entries.{starts_calm, starts_land_none}
use Rattle.carried_landings.proofs.Shapes.{AreStarts}
use Rattle.seat_laws.specs.FreeSeat.{IsFreeSeat}
use Rattle.seat_laws.proofs.FreeSeats.{AreStill, nothing_mapped, past_is, same_is, still_made}
use Rattle.seat_schedules.specs.AtWork.{HasWorked, IsAtWork, IsFor, idle}
use Rattle.seat_laws.specs.Lost.{IsReadFor}
use Rattle.seat_schedules.specs.declared.worker.Worker.{Worker}

reads_for : {B : Type 0} (t : History) (seat : Seat) (r : Ref) (lifts : List (LiftView B)) → map flight_place (carrier_of seat.0 t.past) ≡ map place_of lifts → IsReadFor t.past seat.0 r → IsFor t.past seat.0 r lifts
reads_for t seat r [] whole read = absurd (let some = read.carrier in let none = nothing_mapped flight_place (carrier_of seat.0 t.past) whole in cc)
reads_for t seat r (lift ∷ lifts) whole read = read

-- ---- the seat's work after its call
module _ {B : Type 0} {seen : B → BlockView} {tells : Tells} (s : History) (seat : Seat) where
  pub idle_at_work : carrier_of seat.0 s.past ≡ [] → IsAtWork seen tells s seat (idle seat)
  idle_at_work free = record {
    lifts = record { own = refl; begun = tt };
    whole = ap (map flight_place) free;
    formed = λ r is. absurd (none-some r is);
    waits = λ r is. absurd (none-some r is);
  }

  -- nothing at all
  pub none_worked : (w : Worker B) → awaits_reuse s.past ≡ false → IsAtWork seen tells s seat w → HasWorked seen tells s s seat w
  none_worked w calm at_work = record { made = []; past = refl; same = refl; calm = calm; at_work = at_work }

-- nothing at all
pub idle_stays : {B : Type 0} {seen : B → BlockView} {tells : Tells} (s : History) (seat : Seat) → IsFreeSeat s seat → (w : Worker B) → w ≡ idle seat → HasWorked seen tells s s seat w
idle_stays {B} {seen} {tells} s seat free w is =
    none_worked s seat w free.calm (subst (λ (x : Worker B). IsAtWork seen tells s seat x) (sym is) (idle_at_work s seat free.free))

-- entries that begin and land nothing
pub still_worked : {B : Type 0} {seen : B → BlockView} {tells : Tells} (s : History) (seat : Seat) → IsFreeSeat s seat → (t : History) (ws : List What) → t ≡ added_each seat ws s → AreStill ws
    → (w : Worker B) → w ≡ idle seat → HasWorked seen tells s t seat w
still_worked {B} {seen} {tells} s seat free t ws history still w is =
    let leaves = still_made seat.0 ws s.past still in
    let none : carrier_of seat.0 t.past ≡ [] =
    ap (carrier_of seat.0) (past_is s seat t ws history) ∙ (ap (λ (xs : List Flight). Rattle.std.proofs.Common.reverse (filter (is_by seat.0) xs)) leaves.flights ∙ free.free) in
    record {
      made = ws;
      past = past_is s seat t ws history;
      same = same_is s seat t ws history;
      calm = ap awaits_reuse (past_is s seat t ws history) ∙ leaves.calm free.calm;
      at_work = subst (λ (x : Worker B). IsAtWork seen tells t seat x) (sym is) (idle_at_work t seat none);
    }

-- transfers that begin
pub starts_worked : {B : Type 0} {seen : B → BlockView} {tells : Tells} (s : History) (seat : Seat) → IsFreeSeat s seat → (t : History) (ws : List What) → t ≡ added_each seat ws s → AreStarts ws
    → (w : Worker B) → HasLifts seen tells t seat ws w.carrier → ((r : Ref) → w.reference ≡ Some r → IsWellFormedReference r) → ((r : Ref) → w.reference ≡ Some r → IsReadFor t.past seat.0 r)
    → HasWorked seen tells s t seat w
starts_worked s seat free t ws history starts w has formed read =
    let whole : map flight_place (carrier_of seat.0 t.past) ≡ map place_of w.carrier.lifts =
    ap (λ (u : History). map flight_place (carrier_of seat.0 u.past)) history
    ∙ (carrier_made seat ws s (starts_land_none ws starts) ∙ (ap (λ (xs : List Flight). map flight_place xs ++ places_in ws) free.free ∙ sym has.each)) in
    record {
      made = ws;
      past = past_is s seat t ws history;
      same = same_is s seat t ws history;
      calm = ap awaits_reuse (past_is s seat t ws history) ∙ starts_calm seat.0 ws s.past starts free.calm;
      at_work = record {
        lifts = record { own = has.own; begun = has.begun };
        whole = whole;
        formed = formed;
        waits = λ r is. reads_for t seat r w.carrier.lifts whole (read r is);
      };
    }
