-- What landing one flight of a seat leaves of the open flights, and that a frame has one flight at most.
use Rattle.std.proofs.Common.{◌≡◌, ℕ, ◌≤◌, Bool, true, false, not, List, [], ◌∷◌, Some, find, filter, map, reverse, nat_eq, count_by, refl, sym, ap, ◌∙◌}
use Rattle.std.specs.List.{AllByRecursion, IsDistinct}
use Rattle.std.proofs.lemmas.Bool.{eq-eqb, eqb-false, eqb-true, ne_eqb}
use Rattle.vm_journal.specs.declared.entry.Entry.{Entry}
use Rattle.pager_model.specs.Flights.{Flight, is_busy, open_flights, without_flight, carrier_of}
use Rattle.pager_model.specs.Transfers.{is_by, starts}
use Rattle.pager_laws.proofs.PageForgotten.{dropped_find}
use Rattle.pager_rules.proofs.Basics.{each_of_two, each_weaker, none_passes}
use Rattle.pager_rules.proofs.Lists.{all_filter, found_passes}
use Rattle.carried_landings.specs.SeatFlights.{of_others}
use Rattle.carried_landings.proofs.Reversed.{all_pass, all_reverse, filter_within, none_pass, nothing_reversed, only_found, tail_left}

-- ---- a frame has one flight at most
apart_from : (x : Flight) (xs : List Flight) → AllByRecursion (λ (f : ℕ). nat_eq x.frame f ≡ false) (map (λ (y : Flight). y.frame) xs) → AllByRecursion (λ (y : Flight). x.frame ≡ y.frame → ⊥) xs
apart_from x [] all = tt
apart_from x (y ∷ xs) all = (eqb-false x.frame y.frame all.0, apart_from x xs all.1)

-- it is each flight of the list that is on its frame
abbrev pub IsAlone : List Flight → Flight → Type 0
IsAlone flights x = AllByRecursion (λ (y : Flight). x.frame ≡ y.frame → x ≡ y) flights

pub each_alone : (xs : List Flight) → IsDistinct nat_eq (map (λ (x : Flight). x.frame) xs) → AllByRecursion (IsAlone xs) xs
unfolding IsDistinct
each_alone [] distinct = tt
each_alone (x ∷ xs) distinct =
    let apart = apart_from x xs distinct.0 in (
      (λ same. refl, each_weaker (λ (y : Flight). x.frame ≡ y.frame → ⊥) (λ (y : Flight). x.frame ≡ y.frame → x ≡ y) (λ y other same. absurd (other same)) xs apart),
      each_of_two (λ (y : Flight). x.frame ≡ y.frame → ⊥) (IsAlone xs) (IsAlone (x ∷ xs)) (λ y other alone. (λ same. absurd (other (sym same)), alone)) xs apart (each_alone xs distinct.1),
    )

-- so it is with the flights of a seat
pub carrier_alone : (seat : ℕ) (past : List Entry) → IsDistinct nat_eq (map (λ (x : Flight). x.frame) (open_flights past)) → AllByRecursion (IsAlone (open_flights past)) (carrier_of seat past)
carrier_alone seat past distinct =
    all_reverse (IsAlone (open_flights past)) (filter (is_by seat) (open_flights past))
    (all_filter (IsAlone (open_flights past)) (is_by seat) (open_flights past) (each_alone (open_flights past) distinct))

pub carrier_by : (seat : ℕ) (past : List Entry) → AllByRecursion (λ (x : Flight). x.seat ≡ seat) (carrier_of seat past)
carrier_by seat past =
    each_weaker (λ (x : Flight). is_by seat x ≡ true) (λ (x : Flight). x.seat ≡ seat) (λ x is. eqb-true x.seat seat is) (carrier_of seat past)
    (all_reverse (λ (x : Flight). is_by seat x ≡ true) (filter (is_by seat) (open_flights past)) (all_pass (is_by seat) (open_flights past)))

-- ---- no flight of the seat is open
pub none_by : (seat : ℕ) (past : List Entry) → carrier_of seat past ≡ [] → open_flights past ≡ of_others seat (open_flights past)
none_by seat past none = sym (none_pass (is_by seat) (open_flights past) (nothing_reversed (filter (is_by seat) (open_flights past)) none))

not_true : (b : Bool) → not b ≡ true → b ≡ false
not_true true is = sym is
not_true false is = refl

pub others_idle : (seat : ℕ) (flights : List Flight) → is_busy seat (of_others seat flights) ≡ false
others_idle seat flights =
    none_passes (is_by seat) (of_others seat flights)
    (each_weaker (λ (x : Flight). not (is_by seat x) ≡ true) (λ (x : Flight). is_by seat x ≡ false) (λ x is. not_true (is_by seat x) is) (of_others seat flights) (all_pass (λ (x : Flight). not (is_by seat x)) flights))

-- ---- the first flight of a seat's carrier lands
module _ (seat : ℕ) (flights : List Flight) (k : ℕ) (x : Flight) (found : find (starts k) flights ≡ Some x) (once : count_by (starts k) flights ≤ 1) where
  pub rest_left : (xs : List Flight) → reverse (filter (is_by seat) flights) ≡ x ∷ xs → reverse (filter (is_by seat) (without_flight k flights)) ≡ xs
  rest_left xs are = tail_left (is_by seat) (starts k) flights x xs are (found_passes (starts k) flights x found) once

  pub others_left : x.seat ≡ seat → of_others seat (without_flight k flights) ≡ of_others seat flights
  others_left own =
      filter_within (λ (y : Flight). not (is_by seat y)) (λ (y : Flight). not (starts k y)) flights
      (each_weaker (λ (y : Flight). starts k y ≡ true → y ≡ x) (λ (y : Flight). not (is_by seat y) ≡ true → not (starts k y) ≡ true) (λ y only other. go y only other (starts k y) refl) flights (only_found (starts k) flights x found once))
    where
      go : (y : Flight) → (starts k y ≡ true → y ≡ x) → not (is_by seat y) ≡ true → (b : Bool) → starts k y ≡ b → not (starts k y) ≡ true
      go y only other true is =
          let by : is_by seat y ≡ true = eq-eqb y.seat seat (ap (λ (z : Flight). z.seat) (only is) ∙ own) in
          absurd (cc)
      go y only other false is = ap not is

-- another flight stays open
pub found_still : (k j : ℕ) (flights : List Flight) → nat_eq k j ≡ false → find (starts j) (without_flight k flights) ≡ find (starts j) flights
found_still k j flights apart =
    dropped_find (starts j) (starts k) (λ x is. ne_eqb x.start j (λ same. eqb-false k j apart (sym (eqb-true x.start k is) ∙ same))) flights
