-- The open flights as the parts keep them, after one has begun and after one has landed.
use Rattle.std.proofs.Common.{◌≡◌, ℕ, zero, suc, ◌+◌, ◌-◌, ◌<◌, ◌≤◌, Bool, true, false, cond, not, ◌&&◌, List, [], ◌∷◌, Option, Some, None, length, nat_eq, count_by, slice_set, slice_index_or, refl, sym, ap, ◌∙◌, subst, arith, length-set}
use Rattle.std.specs.Prelude.{filter, find}
use Rattle.std.specs.List.{AllByRecursion}
use Rattle.std.specs.Option.{option_and_then, option_map}
use Rattle.std.proofs.lemmas.Bool.{ne_eqb, eqb-false, false≢true}
use Rattle.vm_types.specs.declared.names.FrameState.{FrameState}
use Rattle.vm_types.specs.declared.names.FrameState.TheVariants as state
use Rattle.vm_types.specs.declared.config.Config.{Config}
use Rattle.vm_journal.specs.declared.entry.Role.{Role}
use Rattle.pager_model.specs.Around.{PastView}
use Rattle.pager_model.specs.Flights.{Flight, is_reading, without_flight}
use Rattle.pager_model.specs.Lookups.{is}
use Rattle.pager_model.specs.Pager.{Pager}
use Rattle.pager_model.specs.Transfers.{flights_of, is_by, is_read_on, is_write_on, reads_on, starts, writes_on}
use Rattle.pager_rules.proofs.Basics.{count_cons, count_cons_no, count_cons_yes, count_from_no_find, each_weaker, find_cons_no, find_cons_yes, find_none_from_count, nat_eq_refl}
use Rattle.pager_rules.proofs.Lists.{all_found, count_filter_le, count_found, count_removed_no, count_removed_yes, filter_all, found_passes}
use Rattle.pager_rules.specs.Kept.{FitsFlight, HasWrites, IsKept, one_if, views}
use Rattle.pager_laws.proofs.Holders.{holds_within}
use Rattle.state_fits.specs.Seats.{FlightsFit, SeatsFit, flight_on, is_on_frame, role_by, role_on, start_on}
use Rattle.state_fits.proofs.OnePlace.{each_set, read_is}

-- ---- lists without what passes a test
-- where one item passes q, a search by p that it fails finds the same in the rest
find_removed : {X : Type 0} (p q : X → Bool) (xs : List X) (x : X) → find q xs ≡ Some x → count_by q xs ≤ 1 → p x ≡ false → find p (filter (λ (y : X). not (q y)) xs) ≡ find p xs
find_removed p q [] x found once fails = refl
find_removed {X} p q (y ∷ xs) x found once fails = go (q y) refl found (find_removed p q xs x)
  where
    kept : List X
    kept = filter (λ (z : X). not (q z)) xs

    go : (b : Bool) → q y ≡ b → cond b (Some y) (find q xs) ≡ Some x → (find q xs ≡ Some x → count_by q xs ≤ 1 → p x ≡ false → find p kept ≡ find p xs) → find p (cond (not b) (y ∷ kept) kept) ≡ find p (y ∷ xs)
    go true is here rest =
        let same : y ≡ x = cc in
        let more = count_cons_yes q y xs is in
        ap (find p) (filter_all q xs (omega (arith, more, once))) ∙ sym (find_cons_no p y xs (ap p same ∙ fails))
    go false is there rest =
        let fewer = count_cons_no q y xs is in
        ap (λ (o : Option X). cond (p y) (Some y) o) (rest there (omega (arith, fewer, once)) fails)

length_removed : {X : Type 0} (q : X → Bool) (xs : List X) → length xs ≡ count_by q xs + length (filter (λ (y : X). not (q y)) xs)
length_removed q [] = refl
length_removed {X} q (x ∷ xs) = go (q x) refl (length_removed q xs)
  where
    rest : List X
    rest = filter (λ (y : X). not (q y)) xs

    go : (b : Bool) → q x ≡ b → length xs ≡ count_by q xs + length rest → length (x ∷ xs) ≡ count_by q (x ∷ xs) + length (cond (not b) (x ∷ rest) rest)
    go true is old = let step = count_cons_yes q x xs is in omega (arith, step, old)
    go false is old = let step = count_cons_no q x xs is in omega (arith, step, old)

-- of the items that pass p there is one
only : {X : Type 0} (p q : X → Bool) (xs : List X) (z x : X) → find p xs ≡ Some z → find q xs ≡ Some x → count_by p xs ≤ 1 → p x ≡ true → Some z ≡ Some x
only p q [] z x first found one passes = sym first ∙ found
only {X} p q (y ∷ xs) z x first found one passes = go (p y) refl (q y) refl first found (only p q xs z x)
  where
    go : (b : Bool) → p y ≡ b → (c : Bool) → q y ≡ c → cond b (Some y) (find p xs) ≡ Some z → cond c (Some y) (find q xs) ≡ Some x
        → (find p xs ≡ Some z → find q xs ≡ Some x → count_by p xs ≤ 1 → p x ≡ true → Some z ≡ Some x) → Some z ≡ Some x
    go true is true also here there rest = sym here ∙ there
    go true is false also here there rest =
        let more = count_cons_yes p y xs is in
        let some = count_found p q xs x there passes in
        absurd (omega (arith, more, some, one))
    go false is true also here there rest = let same : y ≡ x = cc in absurd (false≢true (sym is ∙ (ap p same ∙ passes)))
    go false is false also here there rest = rest here there (let fewer = count_cons_no p y xs is in omega (arith, fewer, one)) passes

-- ---- how many flights there are
pub on_frame_counts : (f : ℕ) (flights : List Flight) → count_by (is_on_frame f) flights ≡ reads_on f flights + writes_on f flights
on_frame_counts f [] = refl
on_frame_counts f (x ∷ flights) =
    let whole = count_cons (is_on_frame f) x flights in
    let read = count_cons (is_read_on f) x flights in
    let write = count_cons (is_write_on f) x flights in
    omega (arith, whole, read, write, split (nat_eq x.frame f) (is_reading x.direction), on_frame_counts f flights)
  where
    split : (b c : Bool) → cond {A = ℕ} b 1 0 ≡ cond {A = ℕ} (b && c) 1 0 + cond {A = ℕ} (b && not c) 1 0
    split true true = refl
    split true false = refl
    split false c = refl

-- a frame has one open flight at most
pub one_on_frame : (config : Config) (o : PastView) (a : Pager) (f : ℕ) → IsKept config o a → count_by (is_on_frame f) o.flights ≤ 1
one_on_frame config o a f kept = omega (arith, on_frame_counts f o.flights, few (a.state f) (reads_on f o.flights) (writes_on f o.flights) (kept.frames f).reads (kept.frames f).writes)
  where
    few : (s : FrameState) (reads writes : ℕ) → reads ≡ one_if (is state.Reading s) → HasWrites s writes → reads + writes ≤ 1
    few state.Active reads writes r w = omega (arith, r, w)
    few state.Writing reads writes r w = omega (arith, r, w)
    few state.ReleasePending reads writes r w = omega (arith, r, w)
    few state.Reading reads writes r w = omega (arith, r, w)
    few other reads writes r w = omega (arith, r, w)

-- the frame of an open flight is one of the configuration
pub flight_within : (config : Config) (o : PastView) (a : Pager) (k : ℕ) (x : Flight) → IsKept config o a → find (starts k) o.flights ≡ Some x → x.frame < config.frames
flight_within config o a k x kept found =
    let fits = all_found (FitsFlight (views config a)) (starts k) o.flights x kept.transfers found in
    holds_within config o a x.frame fits.page kept fits.held

few_on_frames : (n : ℕ) (flights : List Flight) → AllByRecursion (λ (x : Flight). x.frame < n) flights → ((f : ℕ) → count_by (is_on_frame f) flights ≤ 1) → length flights ≤ n
few_on_frames zero [] all once = omega arith
few_on_frames zero (x ∷ flights) all once = absurd (omega (arith, all.0))
few_on_frames (suc n) flights all once =
    let rest = few_on_frames n (filter (λ (x : Flight). not (is_on_frame n x)) flights) (below flights all)
    (λ f. omega (arith, count_filter_le (is_on_frame f) (λ (x : Flight). not (is_on_frame n x)) flights, once f)) in
    omega (arith, length_removed (is_on_frame n) flights, once n, rest)
  where
    below : (xs : List Flight) → AllByRecursion (λ (x : Flight). x.frame < suc n) xs → AllByRecursion (λ (x : Flight). x.frame < n) (filter (λ (x : Flight). not (is_on_frame n x)) xs)
    below [] all = tt
    below (x ∷ xs) all = go (nat_eq x.frame n) refl (below xs all.1)
      where
        rest : List Flight
        rest = filter (λ (y : Flight). not (is_on_frame n y)) xs

        differs : (f : ℕ) → f < suc n → (f ≡ n → ⊥) → f < n
        differs f less apart = omega (arith, less, apart)

        go : (b : Bool) → nat_eq x.frame n ≡ b → AllByRecursion (λ (y : Flight). y.frame < n) rest → AllByRecursion (λ (y : Flight). y.frame < n) (cond (not b) (x ∷ rest) rest)
        go true is old = old
        go false apart old = (differs x.frame all.0 (eqb-false x.frame n apart), old)

-- no more flights are open than there are frames
pub flights_few : (config : Config) (o : PastView) (a : Pager) → IsKept config o a → length o.flights ≤ config.frames
flights_few config o a kept =
    few_on_frames config.frames o.flights
    (each_weaker (FitsFlight (views config a)) (λ (x : Flight). x.frame < config.frames) (λ x fits. holds_within config o a x.frame fits.page kept fits.held) o.flights kept.transfers)
    (λ f. one_on_frame config o a f kept)

pub seat_few : (seat : ℕ) (flights : List Flight) → flights_of seat flights ≤ length flights
seat_few seat flights = omega (arith, length_removed (is_by seat) flights)

-- the count of a seat that was read
pub seat_read : (flights : List Flight) (n : ℕ) (busy : List ℕ) (all seat b : ℕ) → SeatsFit flights n busy all → seat < n → b ≡ slice_index_or busy seat b → b ≡ flights_of seat flights
seat_read flights n busy all seat b fit below read = read_is busy seat b (flights_of seat flights) read (fit.each seat below) (omega (arith, below, fit.count))

-- ---- a flight begins
module _ (flights : List Flight) (n : ℕ) (x : Flight) where
  begun_here : flight_on x.frame (x ∷ flights) ≡ Some x
  begun_here = find_cons_yes (is_on_frame x.frame) x flights (nat_eq_refl x.frame)

  begun_there : (g : ℕ) → (x.frame ≡ g → ⊥) → flight_on g (x ∷ flights) ≡ flight_on g flights
  begun_there g apart = find_cons_no (is_on_frame g) x flights (ne_eqb x.frame g apart)

  pub flights_begun : (first : List (Option ℕ)) (roles : List (Option Role)) → FlightsFit flights n first roles → x.frame < n
      → FlightsFit (x ∷ flights) n (slice_set first x.frame (Some x.start)) (slice_set roles x.frame (role_by x.direction))
  flights_begun first roles fit below = record {
    start_count = length-set first x.frame (Some x.start) ∙ fit.start_count;
    role_count = length-set roles x.frame (role_by x.direction) ∙ fit.role_count;
    each_start = each_set (λ f. start_on f flights) (λ f. start_on f (x ∷ flights)) n first x.frame (Some x.start) fit.start_count fit.each_start below
        (ap (option_map (λ (y : Flight). y.start)) (sym begun_here)) (λ g apart. ap (option_map (λ (y : Flight). y.start)) (begun_there g apart));
    each_role = each_set (λ f. role_on f flights) (λ f. role_on f (x ∷ flights)) n roles x.frame (role_by x.direction) fit.role_count fit.each_role below
        (ap (option_and_then (λ (y : Flight). role_by y.direction)) (sym begun_here)) (λ g apart. ap (option_and_then (λ (y : Flight). role_by y.direction)) (begun_there g apart));
  }

  pub seats_begun : (busy : List ℕ) (all b : ℕ) → SeatsFit flights n busy all → x.seat < n → b ≡ slice_index_or busy x.seat b → SeatsFit (x ∷ flights) n (slice_set busy x.seat (b + 1)) (all + 1)
  seats_begun busy all b fit below read =
      let is = seat_read flights n busy all x.seat b fit below read in
      record {
        count = length-set busy x.seat (b + 1) ∙ fit.count;
        each = each_set (λ s. flights_of s flights) (λ s. flights_of s (x ∷ flights)) n busy x.seat (b + 1) fit.count fit.each below
            (omega (arith, is, count_cons_yes (is_by x.seat) x flights (nat_eq_refl x.seat))) (λ s apart. count_cons_no (is_by s) x flights (ne_eqb x.seat s apart));
        total = omega (arith, fit.total);
      }

-- ---- a flight lands
module _ (flights : List Flight) (n k : ℕ) (x : Flight) (found : find (starts k) flights ≡ Some x) (once : count_by (starts k) flights ≤ 1) where
  landed_there : (g : ℕ) → (x.frame ≡ g → ⊥) → flight_on g (without_flight k flights) ≡ flight_on g flights
  landed_there g apart = find_removed (is_on_frame g) (starts k) flights x found once (ne_eqb x.frame g apart)

  landed_here : count_by (is_on_frame x.frame) flights ≤ 1 → flight_on x.frame (without_flight k flights) ≡ None
  landed_here one =
      let fewer = count_removed_yes (is_on_frame x.frame) (starts k) flights x found once (nat_eq_refl x.frame) in
      find_none_from_count (is_on_frame x.frame) (without_flight k flights) (omega (arith, fewer, one))

  pub flights_landed : (first : List (Option ℕ)) (roles : List (Option Role)) → FlightsFit flights n first roles → x.frame < n → count_by (is_on_frame x.frame) flights ≤ 1
      → FlightsFit (without_flight k flights) n (slice_set first x.frame None) (slice_set roles x.frame None)
  flights_landed first roles fit below one = record {
    start_count = length-set first x.frame None ∙ fit.start_count;
    role_count = length-set roles x.frame None ∙ fit.role_count;
    each_start = each_set (λ f. start_on f flights) (λ f. start_on f (without_flight k flights)) n first x.frame None fit.start_count fit.each_start below
        (ap (option_map (λ (y : Flight). y.start)) (sym (landed_here one))) (λ g apart. ap (option_map (λ (y : Flight). y.start)) (landed_there g apart));
    each_role = each_set (λ f. role_on f flights) (λ f. role_on f (without_flight k flights)) n roles x.frame None fit.role_count fit.each_role below
        (ap (option_and_then (λ (y : Flight). role_by y.direction)) (sym (landed_here one))) (λ g apart. ap (option_and_then (λ (y : Flight). role_by y.direction)) (landed_there g apart));
  }

  -- the seat has the flight, and so there is one
  pub seat_has : 0 < flights_of x.seat flights
  seat_has = count_found (is_by x.seat) (starts k) flights x found (nat_eq_refl x.seat)

  one_fewer : length flights ≡ 1 + length (without_flight k flights)
  one_fewer =
      let some = count_found (starts k) (starts k) flights x found (found_passes (starts k) flights x found) in
      omega (arith, some, once, length_removed (starts k) flights)

  pub seats_landed : (busy : List ℕ) (all b : ℕ) → SeatsFit flights n busy all → x.seat < n → b ≡ slice_index_or busy x.seat b → SeatsFit (without_flight k flights) n (slice_set busy x.seat (b - 1)) (all - 1)
  seats_landed busy all b fit below read =
      let is = seat_read flights n busy all x.seat b fit below read in
      record {
        count = length-set busy x.seat (b - 1) ∙ fit.count;
        each = each_set (λ s. flights_of s flights) (λ s. flights_of s (without_flight k flights)) n busy x.seat (b - 1) fit.count fit.each below
            (omega (arith, is, count_removed_yes (is_by x.seat) (starts k) flights x found once (nat_eq_refl x.seat)))
            (λ s apart. count_removed_no (is_by s) (starts k) flights x found once (ne_eqb x.seat s apart));
        total = omega (arith, fit.total, one_fewer);
      }

  -- the same, with the frame and the seat by names of their own
  pub flights_landed_at : (f : ℕ) → x.frame ≡ f → (first : List (Option ℕ)) (roles : List (Option Role)) → FlightsFit flights n first roles → f < n → count_by (is_on_frame f) flights ≤ 1
      → FlightsFit (without_flight k flights) n (slice_set first f None) (slice_set roles f None)
  flights_landed_at f same first roles fit = subst (λ (g : ℕ). g < n → count_by (is_on_frame g) flights ≤ 1 → FlightsFit (without_flight k flights) n (slice_set first g None) (slice_set roles g None)) same (flights_landed first roles fit)

  pub seats_landed_at : (s : ℕ) → x.seat ≡ s → (busy : List ℕ) (all b : ℕ) → SeatsFit flights n busy all → s < n → b ≡ slice_index_or busy s b → SeatsFit (without_flight k flights) n (slice_set busy s (b - 1)) (all - 1)
  seats_landed_at s same busy all b fit = subst (λ (t : ℕ). t < n → b ≡ slice_index_or busy t b → SeatsFit (without_flight k flights) n (slice_set busy t (b - 1)) (all - 1)) same (seats_landed busy all b fit)

  -- the flight is what its frame's open flight is
  pub flight_is : count_by (is_on_frame x.frame) flights ≤ 1 → flight_on x.frame flights ≡ Some x
  flight_is one = go (flight_on x.frame flights) refl
    where
      some : 0 < count_by (is_on_frame x.frame) flights
      some = count_found (is_on_frame x.frame) (starts k) flights x found (nat_eq_refl x.frame)

      go : (o : Option Flight) → flight_on x.frame flights ≡ o → o ≡ Some x
      go None is = absurd (let none = count_from_no_find (is_on_frame x.frame) flights is in omega (arith, some, none))
      go (Some z) is = only (is_on_frame x.frame) (starts k) flights z x is found one (nat_eq_refl x.frame)
