-- The lifts of a carrier are of the open flights of its seat, each at its place.
use Rattle.std.proofs.Common.{◌≡◌, ℕ, ◌≤◌, false, List, [], ◌∷◌, Some, find, filter, map, nat_eq, count_by, sym, ap, ◌∙◌, subst, arith}
use Rattle.std.specs.List.{AllByRecursion}
use Rattle.std.proofs.lemmas.Bool.{eqb-false, eqb-true, ne_eqb}
use Rattle.std.proofs.lemmas.Option.{same_Some}
use Rattle.vm_types.specs.BlockView.{BlockView, Tells}
use Rattle.vm_types.specs.declared.names.BlockId.{BlockId}
use Rattle.vm_types.specs.declared.names.Seat.{Seat}
use Rattle.vm_journal.specs.declared.entry.Entry.{Entry}
use Rattle.pager_model.specs.Flights.{Flight, awaits_reuse, open_flights, carrier_of}
use Rattle.pager_model.specs.Run.{IsRun}
use Rattle.pager_model.specs.Transfers.{is_by, starts}
use Rattle.vm_types.specs.Configuration.{IsWellFormed}
use Rattle.pager_laws.proofs.RunsAreSound.{run_sound}
use Rattle.pager_rules.proofs.Basics.{count_cons, count_cons_yes, nat_eq_refl}
use Rattle.pager_rules.proofs.Lists.{all_found, count_filter_le, found_passes}
use Rattle.pager_rules.proofs.Quiet.{starts_once}
use Rattle.frame_store.specs.LiftView.{LiftView}
use Rattle.frame_store.specs.declared.lift.Carried.TheVariants.{Waiting}
use Rattle.lift_carriers.specs.CarrierView.{CarrierView}
use Rattle.vm_state.specs.History.{History}
use Rattle.vm_state.specs.LiftsLand.{CarrierMayLand, HaveOwnStarts, MayLand}
use Rattle.call_begins.specs.Lifted.{place_of}
use Rattle.carried_landings.specs.SeatFlights.{flight_place}
use Rattle.carried_landings.proofs.LandingsAgree.{Fits, open_here}
use Rattle.carried_landings.proofs.Reversed.{count_reverse, count_zero}
use Rattle.carried_landings.proofs.SeatLandings.{IsAlone, carrier_alone, carrier_by}

-- each flight is the open one that has the start of the lift at its place
abbrev pub AreFlightsOf : {B : Type 0} → List Flight → List Flight → List (LiftView B) → Type 0
AreFlightsOf flights [] [] = Unit {0}
AreFlightsOf flights [] (lift ∷ lifts) = ⊥
AreFlightsOf flights (x ∷ xs) [] = ⊥
AreFlightsOf flights (x ∷ xs) (lift ∷ lifts) = (find (starts lift.start) flights ≡ Some x) × AreFlightsOf flights xs lifts

abbrev first_or : {X : Type 0} → X → List X → X
first_or d [] = d
first_or d (x ∷ xs) = x

abbrev rest_of : {X : Type 0} → List X → List X
rest_of [] = []
rest_of (x ∷ xs) = xs

-- a start is one flight's
carrier_once : (seat : ℕ) (past : List Entry) (k : ℕ) → count_by (starts k) (carrier_of seat past) ≤ 1
carrier_once seat past k =
    let turned = count_reverse (starts k) (filter (is_by seat) (open_flights past)) in
    let fewer = count_filter_le (starts k) (is_by seat) (open_flights past) in
    let once = starts_once past k in
    omega (arith, turned, fewer, once)

module _ {B : Type 0} where
  start_is : (flights : List Flight) (x : Flight) (lift : LiftView B) → find (starts lift.start) flights ≡ Some x → x.start ≡ lift.start
  start_is flights x lift found = eqb-true x.start lift.start (found_passes (starts lift.start) flights x found)

  -- ---- their starts differ
  others_apart : (flights : List Flight) (k : ℕ) (xs : List Flight) (lifts : List (LiftView B)) → AreFlightsOf flights xs lifts → AllByRecursion (λ (x : Flight). starts k x ≡ false) xs → AllByRecursion (λ (lift : LiftView B). nat_eq k lift.start ≡ false) lifts
  others_apart flights k [] [] are apart = tt
  others_apart flights k [] (lift ∷ lifts) are apart = absurd are
  others_apart flights k (x ∷ xs) [] are apart = absurd are
  others_apart flights k (x ∷ xs) (lift ∷ lifts) are apart = (
    ne_eqb k lift.start (λ same. eqb-false x.start k apart.0 (start_is flights x lift are.0 ∙ sym same)),
    others_apart flights k xs lifts are.1 apart.1,
  )

  own_starts : (flights xs : List Flight) (lifts : List (LiftView B)) → AreFlightsOf flights xs lifts → ((k : ℕ) → count_by (starts k) xs ≤ 1) → HaveOwnStarts lifts
  own_starts flights [] [] are once = tt
  own_starts flights [] (lift ∷ lifts) are once = absurd are
  own_starts flights (x ∷ xs) [] are once = absurd are
  own_starts flights (x ∷ xs) (lift ∷ lifts) are once =
      let none : count_by (starts x.start) xs ≡ 0 = (let one = once x.start in let more = count_cons_yes (starts x.start) x xs (nat_eq_refl x.start) in omega (arith, one, more)) in (
        subst (λ (k : ℕ). AllByRecursion (λ (other : LiftView B). nat_eq k other.start ≡ false) lifts) (start_is flights x lift are.0) (others_apart flights x.start xs lifts are.1 (count_zero (starts x.start) xs none)),
        own_starts flights xs lifts are.1 (λ k. let one = once k in let more = count_cons (starts k) x xs in omega (arith, one, more)),
      )

module _ {B : Type 0} (seen : B → BlockView) (tells : Tells) (s : History) where
  abbrev FitsNow : LiftView B → Type 0
  FitsNow lift = Fits seen tells s.config s.past lift

  -- ---- by their places
  are_flights : (xs : List Flight) (lifts : List (LiftView B)) → map flight_place xs ≡ map place_of lifts → AllByRecursion (IsAlone (open_flights s.past)) xs → AllByRecursion FitsNow lifts → AreFlightsOf (open_flights s.past) xs lifts
  are_flights [] [] same alone fit = tt
  are_flights [] (lift ∷ lifts) same alone fit = absurd (cc)
  are_flights (x ∷ xs) [] same alone fit = absurd (cc)
  are_flights (x ∷ xs) (lift ∷ lifts) same alone fit =
      let frame : x.frame ≡ lift.frame = ap (λ (places : List (ℕ × BlockId)). (first_or (x.frame, x.block) places).0) same in
      let found = open_here seen tells s.config s.past lift fit.0 in
      let is : x ≡ (fit.0).0 = all_found (λ (z : Flight). x.frame ≡ z.frame → x ≡ z) (starts lift.start) (open_flights s.past) (fit.0).0 alone.0 found (frame ∙ sym (((fit.0).1).flight).frame) in (
        found ∙ ap Some (sym is),
        are_flights xs lifts (ap rest_of same) alone.1 fit.1,
      )

  pub whole_flights : (seat : ℕ) (lifts : List (LiftView B)) → IsWellFormed s.config → IsRun s.config s.past → map flight_place (carrier_of seat s.past) ≡ map place_of lifts → AllByRecursion FitsNow lifts → AreFlightsOf (open_flights s.past) (carrier_of seat s.past) lifts
  whole_flights seat lifts formed run same fit = are_flights (carrier_of seat s.past) lifts same (carrier_alone seat s.past ((run_sound s.config s.past formed run).flights).frames) fit

  -- ---- each may land
  each_may : (seat : Seat) (xs : List Flight) (lifts : List (LiftView B)) → AreFlightsOf (open_flights s.past) xs lifts → AllByRecursion (λ (x : Flight). x.seat ≡ seat.0) xs → AllByRecursion FitsNow lifts
      → AllByRecursion (λ (lift : LiftView B). lift.result ≡ Waiting → ⊥) lifts → AllByRecursion (λ (lift : LiftView B). lift.pool ≡ s.pool) lifts → AllByRecursion (MayLand seen tells s seat) lifts
  each_may seat [] [] are own fit carried pool = tt
  each_may seat [] (lift ∷ lifts) are own fit carried pool = absurd are
  each_may seat (x ∷ xs) [] are own fit carried pool = absurd are
  each_may seat (x ∷ xs) (lift ∷ lifts) are own fit carried pool = (
    record {
      carried = carried.0;
      fits = fit.0;
      own = ap (λ (z : Flight). z.seat) (same_Some _ _ (sym (open_here seen tells s.config s.past lift fit.0) ∙ are.0)) ∙ own.0;
      pool = pool.0;
    },
    each_may seat xs lifts are.1 own.1 fit.1 carried.1 pool.1,
  )

  pub may_land : (c : CarrierView B) → AreFlightsOf (open_flights s.past) (carrier_of (c.seat).0 s.past) c.lifts → awaits_reuse s.past ≡ false → AllByRecursion FitsNow c.lifts → AllByRecursion (λ (lift : LiftView B). lift.result ≡ Waiting → ⊥) c.lifts
      → AllByRecursion (λ (lift : LiftView B). lift.pool ≡ s.pool) c.lifts → CarrierMayLand seen tells s c
  may_land c are calm fit carried pool = record {
    calm = calm;
    each = each_may c.seat (carrier_of (c.seat).0 s.past) c.lifts are (carrier_by (c.seat).0 s.past) fit carried pool;
    apart = own_starts (open_flights s.past) (carrier_of (c.seat).0 s.past) c.lifts are (carrier_once (c.seat).0 s.past);
  }

  pub apart_starts : (seat : ℕ) (lifts : List (LiftView B)) → AreFlightsOf (open_flights s.past) (carrier_of seat s.past) lifts → HaveOwnStarts lifts
  apart_starts seat lifts are = own_starts (open_flights s.past) (carrier_of seat s.past) lifts are (carrier_once seat s.past)
