-- What a seat begins stands in its carrier, each transfer at its place.
use Rattle.std.proofs.Common.{◌≡◌, ℕ, ◌+◌, Bool, cond, List, [], ◌∷◌, ◌++◌, filter, length, map, nat_eq, not, reverse, refl, sym, ap, ◌∙◌, subst}
use Rattle.std.specs.List.{AllByRecursion}
use Rattle.std.proofs.lemmas.List.{append-nil, append_assoc, map-append}
use Rattle.vm_types.specs.BlockView.{BlockView, Tells}
use Rattle.vm_types.specs.declared.names.BlockId.{BlockId}
use Rattle.vm_types.specs.declared.names.Seat.{Seat}
use Rattle.vm_journal.specs.declared.entry.What.{What}
use Rattle.vm_journal.specs.declared.entry.What.TheVariants as what
use Rattle.pager_model.specs.Flights.{Flight, flights_with, open_flights, reading, writing, carrier_of}
use Rattle.pager_model.specs.Transfers.{is_by}
use Rattle.pager_rules.proofs.Basics.{nat_eq_refl}
use Rattle.lift_carriers.specs.CarrierView.{CarrierView}
use Rattle.vm_state.specs.History.{History, added, entry_by}
use Rattle.vm_state.specs.LiftsLand.{added_each}
use Rattle.call_begins.specs.Lifted.{HasBegunLifts, HasLifts, place_of, places_in}
use Rattle.carried_landings.specs.SeatFlights.{flight_place, of_others}
use Rattle.carried_landings.proofs.Reversed.{reverse_cons}

-- an entry that lands no flight
abbrev pub LandsNone : What → Type 0
LandsNone (what.InOk f k) = ⊥
LandsNone (what.InFail f k c d) = ⊥
LandsNone (what.OutOk f k) = ⊥
LandsNone (what.OutFail f k c d) = ⊥
LandsNone other = Unit {0}

abbrev places : ℕ → List Flight → List (ℕ × BlockId)
places seat flights = map flight_place (reverse (filter (is_by seat) flights))

begun_last : (seat : ℕ) (x : Flight) (flights : List Flight) → x.seat ≡ seat → places seat (x ∷ flights) ≡ places seat flights ++ flight_place x ∷ []
begun_last seat x flights own =
    ap (λ (b : Bool). map flight_place (reverse (cond b (x ∷ filter (is_by seat) flights) (filter (is_by seat) flights)))) (ap (λ (n : ℕ). nat_eq n seat) own ∙ nat_eq_refl seat)
    ∙ (ap (map flight_place) (reverse_cons x (filter (is_by seat) flights)) ∙ map-append flight_place (reverse (filter (is_by seat) flights)) (x ∷ []))

module _ (seat : Seat) where
  one_begun : (n : ℕ) (w : What) (ws : List What) (flights : List Flight) → LandsNone w → places seat.0 (flights_with n seat.0 w flights) ++ places_in ws ≡ places seat.0 flights ++ places_in (w ∷ ws)
  one_begun n (what.In f block role) ws flights none =
      ap (λ (ps : List (ℕ × BlockId)). ps ++ places_in ws) (begun_last seat.0 (record { start = n; seat = seat.0; frame = f.0; block = block; direction = reading role }) flights refl)
      ∙ append_assoc (places seat.0 flights) ((f.0, block) ∷ []) (places_in ws)
  one_begun n (what.Out f block) ws flights none =
      ap (λ (ps : List (ℕ × BlockId)). ps ++ places_in ws) (begun_last seat.0 (record { start = n; seat = seat.0; frame = f.0; block = block; direction = writing }) flights refl)
      ∙ append_assoc (places seat.0 flights) ((f.0, block) ∷ []) (places_in ws)
  one_begun n (what.InOk f k) ws flights none = absurd none
  one_begun n (what.InFail f k c d) ws flights none = absurd none
  one_begun n (what.OutOk f k) ws flights none = absurd none
  one_begun n (what.OutFail f k c d) ws flights none = absurd none
  one_begun n other ws flights none = refl

  -- the seat's carrier has what it had, and behind it what begins among the entries
  pub carrier_made : (made : List What) (s : History) → AllByRecursion LandsNone made → map flight_place (carrier_of seat.0 (added_each seat made s).past) ≡ map flight_place (carrier_of seat.0 s.past) ++ places_in made
  carrier_made [] s none = sym (append-nil (map flight_place (carrier_of seat.0 s.past)))
  carrier_made (w ∷ ws) s none = carrier_made ws (added s (entry_by seat w)) none.1 ∙ one_begun (length s.past + 1) w ws (open_flights s.past) none.0

  -- it is of this seat
  abbrev pub IsOfSeat : Flight → Type 0
  IsOfSeat x = x.seat ≡ seat.0

  one_own : (n : ℕ) (w : What) (flights : List Flight) → LandsNone w → AllByRecursion IsOfSeat flights → AllByRecursion IsOfSeat (flights_with n seat.0 w flights)
  one_own n (what.In f block role) flights none own = (refl, own)
  one_own n (what.Out f block) flights none own = (refl, own)
  one_own n (what.InOk f k) flights none own = absurd none
  one_own n (what.InFail f k c d) flights none own = absurd none
  one_own n (what.OutOk f k) flights none own = absurd none
  one_own n (what.OutFail f k c d) flights none own = absurd none
  one_own n other flights none own = own

  -- if only flights of this seat were open, only such are
  pub own_made : (made : List What) (s : History) → AllByRecursion LandsNone made → AllByRecursion IsOfSeat (open_flights s.past) → AllByRecursion IsOfSeat (open_flights (added_each seat made s).past)
  own_made [] s none own = own
  own_made (w ∷ ws) s none own = own_made ws (added s (entry_by seat w)) none.1 (one_own (length s.past + 1) w (open_flights s.past) none.0 own)

  -- and no other seat's
  pub none_of_others : (flights : List Flight) → AllByRecursion IsOfSeat flights → of_others seat.0 flights ≡ []
  none_of_others [] own = refl
  none_of_others (x ∷ flights) own =
      ap (λ (b : Bool). cond (not b) (x ∷ of_others seat.0 flights) (of_others seat.0 flights)) (ap (λ (n : ℕ). nat_eq n seat.0) own.0 ∙ nat_eq_refl seat.0) ∙ none_of_others flights own.1

  -- the lifts of what was made are begun by the seat that their carrier names
  pub begun_made : {B : Type 0} {seen : B → BlockView} {tells : Tells} (s : History) (made : List What) (c : CarrierView B) → HasLifts seen tells s seat made c
      → HasBegunLifts seen tells s c.seat c
  begun_made {B} {seen} {tells} s made c has =
      subst (λ (own : Seat). HasBegunLifts seen tells s own c) (sym has.own) (record { own = has.own; begun = has.begun })

  -- ---- where no flight was open
  module _ (made : List What) (s : History) (none : AllByRecursion LandsNone made) (idle : open_flights s.past ≡ []) where
    pub only_made : map flight_place (carrier_of seat.0 (added_each seat made s).past) ≡ places_in made
    only_made = carrier_made made s none ∙ ap (λ (flights : List Flight). places seat.0 flights ++ places_in made) idle

    pub only_own : AllByRecursion IsOfSeat (open_flights (added_each seat made s).past)
    only_own = own_made made s none (subst (AllByRecursion IsOfSeat) (sym idle) tt)

    -- the lifts of what was made are a whole carrier
    pub whole_made : {B : Type 0} {seen : B → BlockView} {tells : Tells} (c : CarrierView B) → HasLifts seen tells (added_each seat made s) seat made c
        → map flight_place (carrier_of (c.seat).0 (added_each seat made s).past) ≡ map place_of c.lifts
    whole_made c has = ap (λ (own : Seat). map flight_place (carrier_of own.0 (added_each seat made s).past)) has.own ∙ (only_made ∙ sym has.each)

    -- and once they have landed no flight is open
    pub none_left : (own : Seat) → own ≡ seat → (flights : List Flight) → flights ≡ of_others own.0 (open_flights (added_each seat made s).past) → flights ≡ []
    none_left own is flights left =
        left ∙ (ap (λ (x : Seat). of_others x.0 (open_flights (added_each seat made s).past)) is ∙ none_of_others (open_flights (added_each seat made s).past) only_own)
