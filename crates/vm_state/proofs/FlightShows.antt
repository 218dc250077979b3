-- What the readers of transfers show is what the parts stand for.
use Rattle.std.proofs.Common.{◌≡◌, ℕ, zero, suc, ◌+◌, ◌-◌, ◌<◌, ◌≤◌, Bool, true, false, List, [], ◌∷◌, ◌++◌, Option, Some, None, find, length, min, reverse, nat_eq, count_by, cond, slice_get, slice_index_or, refl, sym, ap, ◌∙◌, subst, arith}
use Rattle.std.specs.Prelude.{◌||◌}
use Rattle.std.specs.List.{list_any}
use Rattle.std.specs.Option.{option_and_then, option_map}
use Rattle.std.proofs.lemmas.Bool.{and_from, and_parts, eqb-true, false≢true, lt-ltb}
use Rattle.std.proofs.lemmas.Grind.{reverse_onto}
use Rattle.std.proofs.lemmas.List.{length-reverse}
use Rattle.std.proofs.lemmas.Option.{get_or_from_slice_get, none-some, slice_get-map, slice_get_within}
use Rattle.vm_types.specs.BlockView.{BlockView, Tells}
use Rattle.vm_types.specs.declared.config.Config.{Config}
use Rattle.vm_journal.specs.declared.entry.Entry.{Entry}
use Rattle.vm_journal.specs.declared.entry.Role.{Role}
use Rattle.vm_journal.specs.declared.entry.What.{What}
use Rattle.vm_journal.specs.declared.entry.What.TheVariants as what
use Rattle.pager_model.specs.Around.{past_view}
use Rattle.pager_model.specs.Flights.{Direction, Flight, begun_by, begun_in, is_reading, open_flights, reading, writing}
use Rattle.vm_types.specs.declared.names.Seat.{Seat}
use Rattle.run_record.specs.RunRecord.{seat_bytes}
use Rattle.pager_model.specs.Run.{IsRun, pager_after}
use Rattle.pager_model.specs.Transfers.{has_come, is_come, is_read_on, starts}
use Rattle.pager_laws.proofs.FlightsOpen.{open_exactly}
use Rattle.pager_rules.proofs.Basics.{count_cons_no, count_cons_yes, count_from_no_find, nat_eq_refl}
use Rattle.pager_rules.proofs.Lists.{all_found, count_found, found_passes}
use Rattle.pager_rules.proofs.Quiet.{starts_once}
use Rattle.pager_rules.specs.Kept.{FitsFlight, views}
use Rattle.frame_store.specs.StoreView.{StoreView}
use Rattle.frame_store.specs.Blocks.{held_at}
use Rattle.frame_store.proofs.Places.{get_held}
use Rattle.frame_store.proofs.Rows.{get_left, get_right}
use Rattle.pager_laws.proofs.Holders.{holds_within}
use Rattle.state_fits.specs.Parts.{Parts}
use Rattle.state_fits.specs.Seats.{flight_on, is_on_frame, role_by, role_on, start_on}
use Rattle.state_fits.proofs.FlightsMoved.{on_frame_counts, one_on_frame}
use Rattle.state_fits.proofs.OnePlace.{read_is}
use Rattle.state_pages.specs.ComeRoles.{comes}
use Rattle.vm_state.specs.FlightReadings.{read_by}
use Rattle.vm_state.specs.StateKept.{IsState}
use Rattle.vm_state.proofs.Closing.{kept}
use Rattle.vm_state.proofs.WhatIsRead.{some_counted}

-- ---- of the items that pass a test there is one
only_one : {X : Type 0} (p q : X → Bool) (xs : List X) (x : X) → find q xs ≡ Some x → p x ≡ true → count_by p xs ≤ 1 → find p xs ≡ Some x
only_one p q [] x found passes one = absurd (none-some x found)
only_one {X} p q (y ∷ xs) x found passes one = go (q y) refl (p y) refl found (only_one p q xs x)
  where
    go : (c : Bool) → q y ≡ c → (b : Bool) → p y ≡ b → cond c (Some y) (find q xs) ≡ Some x → (find q xs ≡ Some x → p x ≡ true → count_by p xs ≤ 1 → find p xs ≡ Some x) → cond b (Some y) (find p xs) ≡ Some x
    go true also true is here rest = here
    go true also false is here rest = let same : y ≡ x = cc in absurd (false≢true (sym is ∙ (ap p same ∙ passes)))
    go false also true is there rest =
        let some = count_found p q xs x there passes in
        let more = count_cons_yes p y xs is in
        absurd (omega (arith, some, more, one))
    go false also false is there rest = rest there passes (let same = count_cons_no p y xs is in omega (arith, same, one))

-- ---- the read that is open on a frame with one flight at most
read_found : (f : ℕ) (flights : List Flight) → count_by (is_on_frame f) flights ≤ 1 → (x : Flight) → flight_on f flights ≡ Some x → is_reading x.direction ≡ true → find (is_read_on f) flights ≡ Some x
read_found f flights one x there reads =
    let both = on_frame_counts f flights in
    only_one (is_read_on f) (is_on_frame f) flights x there (and_from _ _ (found_passes (is_on_frame f) flights x there) reads) (omega (arith, both, one))

none_reads : (f : ℕ) (flights : List Flight) → count_by (is_on_frame f) flights ≤ 1 → (x : Flight) → flight_on f flights ≡ Some x → is_reading x.direction ≡ false → find (is_read_on f) flights ≡ None
none_reads f flights one x there writes = go (find (is_read_on f) flights) refl
  where
    go : (o : Option Flight) → find (is_read_on f) flights ≡ o → find (is_read_on f) flights ≡ None
    go None is = is
    go (Some y) is =
        let parts = and_parts (nat_eq y.frame f) (is_reading y.direction) (found_passes (is_read_on f) flights y is) in
        let found : Some x ≡ Some y = sym there ∙ only_one (is_on_frame f) (is_read_on f) flights y is parts.0 one in
        let same : x ≡ y = cc in
        absurd (false≢true (sym writes ∙ (ap (λ (z : Flight). is_reading z.direction) same ∙ parts.1)))

none_there : (f : ℕ) (flights : List Flight) → flight_on f flights ≡ None → find (is_read_on f) flights ≡ None
none_there f flights none = go (find (is_read_on f) flights) refl
  where
    go : (o : Option Flight) → find (is_read_on f) flights ≡ o → find (is_read_on f) flights ≡ None
    go None is = is
    go (Some y) is =
        let on = (and_parts (nat_eq y.frame f) (is_reading y.direction) (found_passes (is_read_on f) flights y is)).0 in
        let some = count_found (is_on_frame f) (is_read_on f) flights y is on in
        let zero = count_from_no_find (is_on_frame f) flights none in
        absurd (omega (arith, some, zero))

-- by the role and the number that are kept of the frame
pub no_read : (f : ℕ) (flights : List Flight) → count_by (is_on_frame f) flights ≤ 1 → role_on f flights ≡ None → find (is_read_on f) flights ≡ None
no_read f flights one none = go (flight_on f flights) refl none
  where
    go : (o : Option Flight) → flight_on f flights ≡ o → option_and_then (λ (x : Flight). role_by x.direction) o ≡ None → find (is_read_on f) flights ≡ None
    go None is no_role = none_there f flights is
    go (Some x) is no_role = by x.direction refl no_role
      where
        by : (d : Direction) → x.direction ≡ d → role_by d ≡ None → find (is_read_on f) flights ≡ None
        by (reading r) at nothing = absurd (none-some r (sym nothing))
        by writing at nothing = none_reads f flights one x is (ap is_reading at)

pub record IsOpenRead (f k : ℕ) (flights : List Flight) : Type 0 where
  pub flight : Flight
  pub found : find (is_read_on f) flights ≡ Some flight
  pub start : flight.start ≡ k

pub a_read : (f k : ℕ) (r : Role) (flights : List Flight) → count_by (is_on_frame f) flights ≤ 1 → role_on f flights ≡ Some r → start_on f flights ≡ Some k → IsOpenRead f k flights
a_read f k r flights one role start = go (flight_on f flights) refl role start
  where
    go : (o : Option Flight) → flight_on f flights ≡ o → option_and_then (λ (x : Flight). role_by x.direction) o ≡ Some r → option_map (λ (x : Flight). x.start) o ≡ Some k → IsOpenRead f k flights
    go None is none other = absurd (none-some r none)
    go (Some x) is some at = record { flight = x; found = read_found f flights one x is (by x.direction some); start = (let same : x.start ≡ k = cc in same) }
      where
        by : (d : Direction) → role_by d ≡ Some r → is_reading d ≡ true
        by (reading s) there = refl
        by writing there = absurd (none-some r there)

-- ---- the entry in which a flight began
pub record IsBegunBy (past : List Entry) (k seat : ℕ) : Type 0 where
  pub least : 1 ≤ k
  pub most : k ≤ length past
  pub entry : Entry
  pub at : slice_get (reverse past) (k - 1) ≡ Some entry
  pub by : (entry.seat).0 ≡ seat

begun_seat : (number seat k : ℕ) (w : What) (x : Flight) → begun_by number seat w ≡ Some x → x.seat ≡ seat
begun_seat number seat k (what.In f b r) x is = let same : record { start = number; seat = seat; frame = f.0; block = b; direction = reading r } ≡ x = cc in sym (ap (λ (y : Flight). y.seat) same)
begun_seat number seat k (what.Out f b) x is = let same : record { start = number; seat = seat; frame = f.0; block = b; direction = writing } ≡ x = cc in sym (ap (λ (y : Flight). y.seat) same)
begun_seat number seat k other x is = absurd (none-some x is)

pub begun_at : (past : List Entry) (k : ℕ) (x : Flight) → begun_in k past ≡ Some x → IsBegunBy past k x.seat
begun_at [] k x is = absurd (none-some x is)
begun_at (e ∷ past) k x is = go (nat_eq k (length past + 1)) refl is (begun_at past k x)
  where
    last : k ≡ length past + 1 → length (reverse past) + 0 ≡ k - 1
    last number = let count = length-reverse past in omega (arith, count, number)

    go : (b : Bool) → nat_eq k (length past + 1) ≡ b → cond b (begun_by k (e.seat).0 e.what) (begun_in k past) ≡ Some x → (begun_in k past ≡ Some x → IsBegunBy past k x.seat) → IsBegunBy (e ∷ past) k x.seat
    go true same here rest =
        let number : k ≡ length past + 1 = eqb-true k (length past + 1) same in
        record {
          least = omega (arith, number);
          most = omega (arith, number);
          entry = e;
          at = ap (λ (xs : List Entry). slice_get xs (k - 1)) (reverse_onto past e []) ∙ subst (λ (n : ℕ). slice_get (reverse past ++ e ∷ []) n ≡ Some e) (last number) (get_right (reverse past) (e ∷ []) 0 e refl);
          by = sym (begun_seat k (e.seat).0 k e.what x here);
        }
    go false other there rest =
        let old = rest there in
        let most = old.most in
        record { least = old.least; most = omega (arith, most); entry = old.entry; at = ap (λ (xs : List Entry). slice_get xs (k - 1)) (reverse_onto past e []) ∙ get_left (reverse past) (e ∷ []) (k - 1) old.entry old.at; by = old.by }

-- a flight's seat is a process's, the writer's or the swapper's
small_seat : (config : Config) (past : List Entry) (k : ℕ) (x : Flight) → IsRun config past → begun_in k past ≡ Some x → x.seat ≤ length config.procs + 1
small_seat config [] k x run is = absurd (none-some x is)
small_seat config (e ∷ past) k x run is = go (nat_eq k (length past + 1)) is (small_seat config past k x run.0)
  where
    go : (b : Bool) → cond b (begun_by k (e.seat).0 e.what) (begun_in k past) ≡ Some x → (begun_in k past ≡ Some x → x.seat ≤ length config.procs + 1) → x.seat ≤ length config.procs + 1
    go true here rest = let same = begun_seat k (e.seat).0 k e.what x here in let small = (run.1).line.seat in omega (arith, same, small)
    go false there rest = rest there

-- ---- lists that have an item of a kind
any_found : {X : Type 0} (t : X → Bool) (xs : List X) → list_any t xs ≡ true → (x : X) × (find t xs ≡ Some x)
any_found t [] has = absurd (false≢true has)
any_found {X} t (x ∷ xs) has = go (t x) refl has (any_found t xs)
  where
    go : (b : Bool) → t x ≡ b → (b || list_any t xs) ≡ true → (list_any t xs ≡ true → (y : X) × (find t xs ≡ Some y)) → (y : X) × (cond b (Some x) (find t xs) ≡ Some y)
    go true is here rest = (x, refl)
    go false is later rest = rest later

any_from : {X : Type 0} (t q : X → Bool) (xs : List X) (x : X) → find q xs ≡ Some x → t x ≡ true → list_any t xs ≡ true
any_from t q xs x found passes = sym (some_counted t xs) ∙ lt-ltb 0 (count_by t xs) (count_found t q xs x found passes)

any_at : {X : Type 0} (t : X → Bool) (xs : List X) (i : ℕ) (x : X) → slice_get xs i ≡ Some x → t x ≡ true → list_any t xs ≡ true
any_at t [] i x at passes = absurd (none-some x at)
any_at t (y ∷ xs) zero x at passes = let same : y ≡ x = cc in ap (λ (b : Bool). b || list_any t xs) (ap t same ∙ passes)
any_at t (y ∷ xs) (suc i) x at passes = go (t y) (any_at t xs i x at passes)
  where
    go : (b : Bool) → list_any t xs ≡ true → (b || list_any t xs) ≡ true
    go true rest = refl
    go false rest = rest

pub record HasRole (t : Option Role → Bool) (roles : List (Option Role)) : Type 0 where
  pub place : ℕ
  pub role : Option Role
  pub at : slice_get roles place ≡ Some role
  pub passes : t role ≡ true

any_index : (t : Option Role → Bool) (roles : List (Option Role)) → list_any t roles ≡ true → HasRole t roles
any_index t [] has = absurd (false≢true has)
any_index t (r ∷ roles) has = go (t r) refl has (any_index t roles)
  where
    go : (b : Bool) → t r ≡ b → (b || list_any t roles) ≡ true → (list_any t roles ≡ true → HasRole t roles) → HasRole t (r ∷ roles)
    go true is here rest = record { place = 0; role = r; at = refl; passes = is }
    go false is later rest = let found = rest later in record { place = suc found.place; role = found.role; at = found.at; passes = found.passes }

come_role : (p : ℕ) (d : Direction) → is_come p d ≡ true → comes p (role_by d) ≡ true
come_role p (reading r) comes_back = comes_back
come_role p writing comes_back = comes_back

module _ {B : Type 0} {seen : B → BlockView} {tells : Tells} {config : Config} {past : List Entry} {spare : ℕ} {store : StoreView B} {fields : Parts} {numbers : List ℕ}
    (before : IsState seen tells config past spare store fields numbers) where
  one : (f : ℕ) → count_by (is_on_frame f) (open_flights past) ≤ 1
  one f = one_on_frame config (past_view past) (pager_after config past) f (kept before)

  role_is : (f : ℕ) (r : Option Role) → f < config.frames → r ≡ slice_index_or fields.roles f r → r ≡ role_on f (open_flights past)
  role_is f r there read = read_is fields.roles f r (role_on f (open_flights past)) read (before.parts.flights.each_role f there) (let count = before.parts.flights.role_count in omega (arith, count, there))

  pub none_is : (f : ℕ) (r : Option Role) → f < config.frames → r ≡ slice_index_or fields.roles f r → r ≡ None → find (is_read_on f) (open_flights past) ≡ None
  none_is f r there read none = no_read f (open_flights past) (one f) (sym (role_is f r there read) ∙ none)

  start_is : (f : ℕ) → f < config.frames → held_at fields.starts f ≡ start_on f (open_flights past)
  start_is f there = get_held fields.starts f (start_on f (open_flights past)) (before.parts.flights.each_start f there)

  pub no_start : (f : ℕ) → f < config.frames → None ≡ held_at fields.starts f → find (is_read_on f) (open_flights past) ≡ None
  no_start f there none = go (flight_on f (open_flights past)) refl (none ∙ start_is f there)
    where
      go : (o : Option Flight) → flight_on f (open_flights past) ≡ o → None ≡ option_map (λ (x : Flight). x.start) o → find (is_read_on f) (open_flights past) ≡ None
      go None is missing = none_there f (open_flights past) is
      go (Some x) is missing = absurd (none-some x.start missing)

  pub open_is : (f k : ℕ) (r : Option Role) (role : Role) → f < config.frames → r ≡ slice_index_or fields.roles f r → r ≡ Some role → Some k ≡ held_at fields.starts f
      → (x : IsOpenRead f k (open_flights past)) × IsBegunBy past k (x.flight).seat
  open_is f k r role there read some number =
      let found = a_read f k role (open_flights past) (one f) (sym (role_is f r there read) ∙ some) (sym (number ∙ start_is f there)) in
      (found, begun_at past k found.flight ((open_exactly config past k found.flight before.run).begun (by found)))
    where
      by : (found : IsOpenRead f k (open_flights past)) → find (starts k) (open_flights past) ≡ Some found.flight
      by found = only_one (starts k) (is_read_on f) (open_flights past) found.flight found.found (subst (λ (n : ℕ). nat_eq (found.flight).start n ≡ true) found.start (nat_eq_refl (found.flight).start)) (starts_once past k)

  small_of : (f k : ℕ) (r : Option Role) (role : Role) (there : f < config.frames) (read : r ≡ slice_index_or fields.roles f r) (some : r ≡ Some role) (number : Some k ≡ held_at fields.starts f)
      → (((open_is f k r role there read some number).0).flight).seat ≤ length config.procs + 1
  small_of f k r role there read some number =
      let found = (open_is f k r role there read some number).0 in
      small_seat config past k found.flight before.run
      ((open_exactly config past k found.flight before.run).begun
      (only_one (starts k) (is_read_on f) (open_flights past) found.flight found.found (subst (λ (n : ℕ). nat_eq (found.flight).start n ≡ true) found.start (nat_eq_refl (found.flight).start)) (starts_once past k)))

  -- what the record says of the entry that began it
  pub shown_is : (f k : ℕ) (r : Option Role) (role : Role) (entries : List Entry) (x : Seat) → f < config.frames → r ≡ slice_index_or fields.roles f r → r ≡ Some role → Some k ≡ held_at fields.starts f → entries ≡ reverse past
      → min x.0 255 ≡ slice_index_or (seat_bytes entries) (k - 1) 0 → Some (record { seat = x; start = k }) ≡ option_map read_by (find (is_read_on f) (open_flights past))
  shown_is f k r role entries x there read some number is byte =
      let both = open_is f k r role there read some number in
      let flight = (both.0).flight in
      let entry = (both.1).entry in
      let kept : slice_index_or (seat_bytes entries) (k - 1) 0 ≡ min (entry.seat).0 255 =
      ap (λ (xs : List Entry). slice_index_or (seat_bytes xs) (k - 1) 0) is
      ∙ get_or_from_slice_get (seat_bytes (reverse past)) (k - 1) (min (entry.seat).0 255) 0
      (slice_get-map (λ (e : Entry). min (e.seat).0 255) (reverse past) (k - 1) ∙ ap (option_map (λ (e : Entry). min (e.seat).0 255)) (both.1).at) in
      let small = small_of f k r role there read some number in
      let by = (both.1).by in
      let few = before.formed.some_process.1 in
      let seat : x.0 ≡ flight.seat = omega (arith, byte, kept, by, small, few) in
      (λ i. Some (record { seat = record { 0 = seat i }; start = sym (both.0).start i })) ∙ sym (ap (option_map read_by) (both.0).found)

  -- ---- the reads that bring back pages of a process
  comes_there : (p : ℕ) → has_come p (open_flights past) ≡ true → list_any (comes p) fields.roles ≡ true
  comes_there p has =
      let x = any_found (λ (y : Flight). is_come p y.direction) (open_flights past) has in
      let at = flight_frame x.0 x.1 in
      any_at (comes p) fields.roles (x.0).frame (role_on (x.0).frame (open_flights past)) (before.parts.flights.each_role (x.0).frame at.0)
      (ap (λ (o : Option Flight). comes p (option_and_then (λ (y : Flight). role_by y.direction) o)) at.1 ∙ come_role p (x.0).direction (found_passes (λ (y : Flight). is_come p y.direction) (open_flights past) x.0 x.1))
    where
      flight_frame : (x : Flight) → find (λ (y : Flight). is_come p y.direction) (open_flights past) ≡ Some x → (x.frame < config.frames) × (flight_on x.frame (open_flights past) ≡ Some x)
      flight_frame x found =
          let fits = all_found (FitsFlight (views config (pager_after config past))) (λ (y : Flight). is_come p y.direction) (open_flights past) x (kept before).transfers found in (
            holds_within config (past_view past) (pager_after config past) x.frame fits.page (kept before) fits.held,
            only_one (is_on_frame x.frame) (λ (y : Flight). is_come p y.direction) (open_flights past) x found (nat_eq_refl x.frame) (one x.frame),
          )

  comes_here : (p : ℕ) → list_any (comes p) fields.roles ≡ true → has_come p (open_flights past) ≡ true
  comes_here p has =
      let r = any_index (comes p) fields.roles has in
      let count = before.parts.flights.role_count in
      let role : Some r.role ≡ Some (role_on r.place (open_flights past)) = sym r.at ∙ before.parts.flights.each_role r.place (let within = slice_get_within fields.roles r.place r.role r.at in omega (arith, within, count)) in
      let same : r.role ≡ role_on r.place (open_flights past) = cc in
      go r.place (flight_on r.place (open_flights past)) refl (ap (comes p) (sym same) ∙ r.passes)
    where
      go : (f : ℕ) (o : Option Flight) → flight_on f (open_flights past) ≡ o → comes p (option_and_then (λ (y : Flight). role_by y.direction) o) ≡ true → has_come p (open_flights past) ≡ true
      go f None is none = absurd (false≢true none)
      go f (Some x) is some = any_from (λ (y : Flight). is_come p y.direction) (is_on_frame f) (open_flights past) x is (by x.direction some)
        where
          by : (d : Direction) → comes p (role_by d) ≡ true → is_come p d ≡ true
          by (reading r) there = there
          by writing there = absurd (false≢true there)

  pub come_is : (p : ℕ) → list_any (comes p) fields.roles ≡ has_come p (open_flights past)
  come_is p = by (list_any (comes p) fields.roles) (has_come p (open_flights past)) (comes_here p) (comes_there p)
    where
      by : (b c : Bool) → (b ≡ true → c ≡ true) → (c ≡ true → b ≡ true) → b ≡ c
      by true c there back = sym (there refl)
      by false true there back = back refl
      by false false there back = refl

  -- nor does one if no transfer is open
  pub none_comes : (p : ℕ) → fields.in_flight ≡ 0 → has_come p (open_flights past) ≡ false
  none_comes p none = by (open_flights past) (sym before.parts.seats.total ∙ none)
    where
      by : (flights : List Flight) → length flights ≡ 0 → has_come p flights ≡ false
      by [] none = refl
      by (x ∷ xs) none = absurd (omega (arith, none))
