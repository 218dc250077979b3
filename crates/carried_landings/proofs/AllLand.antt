-- The lifts of a whole carrier land as its seat's flights do, one after another.
use Rattle.std.proofs.Common.{◌≡◌, ℕ, false, List, [], ◌∷◌, Some, find, filter, map, nat_eq, reverse, refl, sym, ap, ◌∙◌, subst}
use Rattle.std.specs.List.{AllByRecursion}
use Rattle.std.proofs.lemmas.Bool.{eqb-false, ne_eqb}
use Rattle.vm_types.specs.BlockView.{BlockView, Tells}
use Rattle.vm_types.specs.Configuration.{IsWellFormed}
use Rattle.vm_types.specs.declared.config.Config.{Config}
use Rattle.vm_types.specs.declared.names.Seat.{Seat}
use Rattle.vm_journal.specs.declared.entry.Entry.{Entry}
use Rattle.vm_journal.specs.declared.entry.What.{What}
use Rattle.pager_model.specs.Flights.{Flight, open_flights, without_flight, carrier_of}
use Rattle.pager_policy.specs.Given.{by_seat, made_by}
use Rattle.pager_policy.specs.Landings.{Outcome, landed_by}
use Rattle.pager_model.specs.Run.{IsRun}
use Rattle.pager_model.specs.Transfers.{is_by, starts}
use Rattle.pager_rules.proofs.Basics.{each_of_two}
use Rattle.pager_rules.proofs.Quiet.{starts_once}
use Rattle.frame_store.specs.LiftView.{LiftView}
use Rattle.vm_state.specs.History.{History, added, entry_by}
use Rattle.vm_state.specs.LiftsLand.{HaveOwnStarts, added_each, landed_each, landings_of}
use Rattle.carried_landings.specs.SeatFlights.{of_others}
use Rattle.carried_landings.proofs.CarrierIsWhole.{AreFlightsOf}
use Rattle.carried_landings.proofs.LandingsAgree.{Fits, lands_as, lift_lands, lift_leaves, outcome_of}
use Rattle.carried_landings.proofs.SeatLandings.{carrier_by, found_still, none_by, others_left, rest_left}

-- the past after a seat's lifts have landed, in their order
abbrev pub after_lifts : {B : Type 0} → ℕ → List (LiftView B) → List Entry → List Entry
after_lifts seat [] past = past
after_lifts seat (lift ∷ lifts) past = after_lifts seat lifts (made_by seat (landings_of lift) past)

abbrev pub outcomes_of : {B : Type 0} → List (LiftView B) → List Outcome
outcomes_of {B} lifts = map (λ (lift : LiftView B). outcome_of lift.result) lifts

-- ---- each past before was a run
run_made : (config : Config) (seat : ℕ) (ws : List What) (past : List Entry) → IsRun config (made_by seat ws past) → IsRun config past
run_made config seat [] past run = run
run_made config seat (w ∷ ws) past run = (run_made config seat ws (by_seat seat w ∷ past) run).0

run_lifts : {B : Type 0} (config : Config) (seat : ℕ) (lifts : List (LiftView B)) (past : List Entry) → IsRun config (after_lifts seat lifts past) → IsRun config past
run_lifts config seat [] past run = run
run_lifts config seat (lift ∷ lifts) past run = run_made config seat (landings_of lift) past (run_lifts config seat lifts (made_by seat (landings_of lift) past) run)

flights_still : {B : Type 0} (k : ℕ) (flights xs : List Flight) (lifts : List (LiftView B)) → AreFlightsOf flights xs lifts → AllByRecursion (λ (other : LiftView B). nat_eq k other.start ≡ false) lifts → AreFlightsOf (without_flight k flights) xs lifts
flights_still k flights [] [] are apart = tt
flights_still k flights [] (lift ∷ lifts) are apart = absurd are
flights_still k flights (x ∷ xs) [] are apart = absurd are
flights_still k flights (x ∷ xs) (lift ∷ lifts) are apart = (found_still k lift.start flights apart.0 ∙ are.0, flights_still k flights xs lifts are.1 apart.1)

-- by the seat's flights, with the outcomes that the lifts tell; the flights of the other seats alone stay open
pub record HaveAllLanded {B : Type 0} (config : Config) (seat : ℕ) (xs : List Flight) (lifts : List (LiftView B)) (past : List Entry) : Type 0 where
  pub past_is : after_lifts seat lifts past ≡ landed_by config seat xs (outcomes_of lifts) past
  pub others : open_flights (after_lifts seat lifts past) ≡ of_others seat (open_flights past)

-- ---- in order
module _ {B : Type 0} (seen : B → BlockView) (tells : Tells) (config : Config) (formed : IsWellFormed config) (seat : ℕ) where
  abbrev FitsAt : List Entry → LiftView B → Type 0
  FitsAt past lift = Fits seen tells config past lift

  module _ (x : Flight) (xs : List Flight) (lift : LiftView B) (lifts : List (LiftView B)) (past : List Entry) (are : carrier_of seat past ≡ x ∷ xs) (found : find (starts lift.start) (open_flights past) ≡ Some x) where
    abbrev next : List Entry
    next = made_by seat (landings_of lift) past

    landed : open_flights next ≡ without_flight lift.start (open_flights past)
    landed = lift_lands seat past lift

    next_carrier : carrier_of seat next ≡ xs
    next_carrier = ap (λ (flights : List Flight). reverse (filter (is_by seat) flights)) landed ∙ rest_left seat (open_flights past) lift.start x found (starts_once past lift.start) xs are

    next_others : of_others seat (open_flights next) ≡ of_others seat (open_flights past)
    next_others =
        let own : AllByRecursion (λ (y : Flight). y.seat ≡ seat) (x ∷ xs) = subst (AllByRecursion (λ (y : Flight). y.seat ≡ seat)) are (carrier_by seat past) in
        ap (of_others seat) landed ∙ others_left seat (open_flights past) lift.start x found (starts_once past lift.start) own.0

    one_more : FitsAt past lift → HaveAllLanded config seat xs lifts next → HaveAllLanded config seat (x ∷ xs) (lift ∷ lifts) past
    one_more fits rest = record {
      past_is = rest.past_is ∙ ap (λ (ws : List What). landed_by config seat xs (outcomes_of lifts) (made_by seat ws past)) (sym (lands_as seen tells config past lift fits x found));
      others = rest.others ∙ next_others;
    }

    next_fit : IsRun config next → AllByRecursion (λ (other : LiftView B). nat_eq lift.start other.start ≡ false) lifts → AllByRecursion (FitsAt past) lifts → AllByRecursion (FitsAt next) lifts
    next_fit run apart fit =
        each_of_two (λ (other : LiftView B). nat_eq lift.start other.start ≡ false) (FitsAt past) (FitsAt next)
        (λ other differs fits. lift_leaves seen tells config formed seat past lift other run (ne_eqb other.start lift.start (λ same. eqb-false lift.start other.start differs (sym same))) fits) lifts apart fit

    next_flights : AllByRecursion (λ (other : LiftView B). nat_eq lift.start other.start ≡ false) lifts → AreFlightsOf (open_flights past) xs lifts → AreFlightsOf (open_flights next) xs lifts
    next_flights apart flights = subst (λ (left : List Flight). AreFlightsOf left xs lifts) (sym landed) (flights_still lift.start (open_flights past) xs lifts flights apart)

  pub all_land : (xs : List Flight) (lifts : List (LiftView B)) (past : List Entry) → carrier_of seat past ≡ xs → AreFlightsOf (open_flights past) xs lifts → AllByRecursion (FitsAt past) lifts → HaveOwnStarts lifts → IsRun config (after_lifts seat lifts past)
      → HaveAllLanded config seat xs lifts past
  all_land [] [] past are flights fit apart run = record { past_is = refl; others = none_by seat past are }
  all_land [] (lift ∷ lifts) past are flights fit apart run = absurd flights
  all_land (x ∷ xs) [] past are flights fit apart run = absurd flights
  all_land (x ∷ xs) (lift ∷ lifts) past are flights fit apart run =
      let now : List Entry = made_by seat (landings_of lift) past in
      one_more x xs lift lifts past are flights.0 fit.0
      (all_land xs lifts now (next_carrier x xs lift lifts past are flights.0) (next_flights x xs lift lifts past are flights.0 apart.0 flights.1)
      (next_fit x xs lift lifts past are flights.0 (run_lifts config seat lifts now run) apart.0 fit.1) apart.1 run)

-- ---- of a history
module _ (seat : Seat) where
  past_each : (ws : List What) (s : History) → (added_each seat ws s).past ≡ made_by seat.0 ws s.past
  past_each [] s = refl
  past_each (w ∷ ws) s = past_each ws (added s (entry_by seat w))

  pub past_lifts : {B : Type 0} (lifts : List (LiftView B)) (s : History) → (landed_each seat lifts s).past ≡ after_lifts seat.0 lifts s.past
  past_lifts [] s = refl
  past_lifts (lift ∷ lifts) s = past_lifts lifts (added_each seat (landings_of lift) s) ∙ ap (after_lifts seat.0 lifts) (past_each (landings_of lift) s)

  -- its entries and what is spare change alone
  same_each : (ws : List What) (s : History) → added_each seat ws s ≡ record s { past = (added_each seat ws s).past; spare = (added_each seat ws s).spare }
  same_each [] s = refl
  same_each (w ∷ ws) s = same_each ws (added s (entry_by seat w))

  pub same_lifts : {B : Type 0} (lifts : List (LiftView B)) (s : History) → landed_each seat lifts s ≡ record s { past = (landed_each seat lifts s).past; spare = (landed_each seat lifts s).spare }
  same_lifts [] s = refl
  same_lifts (lift ∷ lifts) s =
      let t : History = added_each seat (landings_of lift) s in
      same_lifts lifts t
      ∙ ap (λ (u : History). record u { past = (landed_each seat lifts t).past; spare = (landed_each seat lifts t).spare }) (same_each (landings_of lift) s)
