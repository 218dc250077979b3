-- How many transfers are open: of a seat as many as its carrier may have, so fewer writes than there are spare buffers
-- before one more begins.
use Rattle.std.proofs.Common.{◌≡◌, ℕ, zero, suc, ◌+◌, ◌*◌, ◌≤◌, ◌<◌, Bool, true, false, cond, not, List, [], ◌∷◌, Some, filter, length, nat_eq, count_by, refl, subst, arith}
use Rattle.std.specs.List.{AllByRecursion}
use Rattle.std.proofs.lemmas.Bool.{eqb-true, eqb-false}
use Rattle.std.proofs.lemmas.List.Sums.{count_by-le-length}
use Rattle.vm_types.specs.Configuration.{IsWellFormed}
use Rattle.vm_types.specs.declared.config.Config.{Config}
use Rattle.vm_types.specs.declared.names.BlockId.{BlockId}
use Rattle.vm_types.specs.declared.names.Pfn.{Pfn}
use Rattle.vm_types.specs.declared.names.Seat.{Seat}
use Rattle.vm_journal.specs.declared.entry.Entry.{Entry}
use Rattle.vm_journal.specs.declared.entry.What.{What}
use Rattle.vm_journal.specs.declared.entry.What.TheVariants as what
use Rattle.pager_laws.proofs.CarriersBalance.{carriers_balance}
use Rattle.pager_model.specs.Flights.{Direction, Flight, begun_by, flights_with, is_busy, open_flights, reading, without_flight, writing}
use Rattle.pager_model.specs.InTurn.{InTurn, cluster_of}
use Rattle.pager_model.specs.Run.{IsRun, pager_after}
use Rattle.pager_model.specs.Step.{IsLegal}
use Rattle.pager_model.specs.Transfers.{flights_of, is_by}
use Rattle.pager_rules.proofs.Basics.{count_cons_no, count_cons_yes, count_none}
use Rattle.pager_rules.proofs.Lists.{all_filter, count_filter_le}
use Rattle.vm_state.specs.StateKept.{is_writing}

few_cluster : (config : Config) → IsWellFormed config → (d : Direction) → cluster_of config d ≤ 16
few_cluster config formed (reading r) = let few = formed.params.pfc.1 in omega (arith, few)
few_cluster config formed writing = formed.params.wrtcluster.1

-- a seat that begins a flight has fewer open
begins : (config : Config) (past : List Entry) (e : Entry) (x : Flight) → IsWellFormed config → IsRun config past → InTurn config past e → begun_by (length past + 1) (e.seat).0 e.what ≡ Some x → flights_of (e.seat).0 (open_flights past) < 16
begins config past e x formed run turn begun = go (is_busy (e.seat).0 (open_flights past)) refl
  where
    go : (b : Bool) → is_busy (e.seat).0 (open_flights past) ≡ b → flights_of (e.seat).0 (open_flights past) < 16
    go false idle = let none = count_none (is_by (e.seat).0) (open_flights past) idle in omega (arith, none)
    go true busy =
        let room = (turn.carrier x begun busy).room in
        let balance = carriers_balance config past run (e.seat).0 in
        let few = few_cluster config formed x.direction in
        omega (arith, room, balance, few)

-- each seat has at most 16
one_more : (s : ℕ) (x : Flight) (flights : List Flight) → flights_of x.seat flights < 16 → flights_of s flights ≤ 16 → flights_of s (x ∷ flights) ≤ 16
one_more s x flights room few = go (nat_eq x.seat s) refl
  where
    go : (b : Bool) → nat_eq x.seat s ≡ b → flights_of s (x ∷ flights) ≤ 16
    go true is = let less = subst (λ (r : ℕ). flights_of r flights < 16) (eqb-true x.seat s is) room in let more = count_cons_yes (is_by s) x flights is in omega (arith, less, more)
    go false is = let same = count_cons_no (is_by s) x flights is in omega (arith, few, same)

one_less : (s k : ℕ) (flights : List Flight) → flights_of s flights ≤ 16 → flights_of s (without_flight k flights) ≤ 16
one_less s k flights few = let less = count_filter_le (is_by s) (λ (x : Flight). not (nat_eq x.start k)) flights in omega (arith, less, few)

few_with : (n seat s : ℕ) (w : What) (flights : List Flight) → ((x : Flight) → begun_by n seat w ≡ Some x → flights_of seat flights < 16) → flights_of s flights ≤ 16 → flights_of s (flights_with n seat w flights) ≤ 16
few_with n seat s (what.In f b r) flights room few = one_more s (record { start = n; seat = seat; frame = f.0; block = b; direction = reading r }) flights (room (record { start = n; seat = seat; frame = f.0; block = b; direction = reading r }) refl) few
few_with n seat s (what.Out f b) flights room few = one_more s (record { start = n; seat = seat; frame = f.0; block = b; direction = writing }) flights (room (record { start = n; seat = seat; frame = f.0; block = b; direction = writing }) refl) few
few_with n seat s (what.InOk f k) flights room few = one_less s k flights few
few_with n seat s (what.InFail f k c d) flights room few = one_less s k flights few
few_with n seat s (what.OutOk f k) flights room few = one_less s k flights few
few_with n seat s (what.OutFail f k c d) flights room few = one_less s k flights few
few_with n seat s other flights room few = few

seat_few : (config : Config) (past : List Entry) (s : ℕ) → IsWellFormed config → IsRun config past → flights_of s (open_flights past) ≤ 16
seat_few config [] s formed run = omega arith
seat_few config (e ∷ past) s formed run =
    few_with (length past + 1) (e.seat).0 s e.what (open_flights past) (λ x begun. begins config past e x formed run.0 run.1.in_turn begun) (seat_few config past s formed run.0)

-- each is of a process, the writer or the swapper
abbrev AreOfSeats : ℕ → List Flight → Type 0
AreOfSeats n flights = AllByRecursion (λ (x : Flight). x.seat < n) flights

seats_with : (n m seat : ℕ) (w : What) (flights : List Flight) → seat < n → AreOfSeats n flights → AreOfSeats n (flights_with m seat w flights)
seats_with n m seat (what.In f b r) flights there all = (there, all)
seats_with n m seat (what.Out f b) flights there all = (there, all)
seats_with n m seat (what.InOk f k) flights there all = all_filter (λ (x : Flight). x.seat < n) (λ (x : Flight). not (nat_eq x.start k)) flights all
seats_with n m seat (what.InFail f k c d) flights there all = all_filter (λ (x : Flight). x.seat < n) (λ (x : Flight). not (nat_eq x.start k)) flights all
seats_with n m seat (what.OutOk f k) flights there all = all_filter (λ (x : Flight). x.seat < n) (λ (x : Flight). not (nat_eq x.start k)) flights all
seats_with n m seat (what.OutFail f k c d) flights there all = all_filter (λ (x : Flight). x.seat < n) (λ (x : Flight). not (nat_eq x.start k)) flights all
seats_with n m seat other flights there all = all

pub of_seats : (config : Config) (past : List Entry) → IsRun config past → AllByRecursion (λ (x : Flight). x.seat < length config.procs + 2) (open_flights past)
of_seats config [] run = tt
of_seats config (e ∷ past) run =
    seats_with (length config.procs + 2) (length past + 1) (e.seat).0 e.what (open_flights past) (let there = run.1.line.seat in omega (arith, there)) (of_seats config past run.0)

-- ---- so all of them together
abbrev others : ℕ → List Flight → List Flight
others n flights = filter (λ (x : Flight). not (nat_eq x.seat n)) flights

pub parted : {X : Type 0} (q : X → Bool) (xs : List X) → length xs ≡ count_by q xs + length (filter (λ (x : X). not (q x)) xs)
parted q [] = refl
parted {X} q (x ∷ xs) = go (q x) refl (parted q xs)
  where
    kept : List X
    kept = filter (λ (y : X). not (q y)) xs

    go : (b : Bool) → q x ≡ b → length xs ≡ count_by q xs + length kept → length (x ∷ xs) ≡ count_by q (x ∷ xs) + length (cond (not b) (x ∷ kept) kept)
    go true is rest = let more = count_cons_yes q x xs is in omega (arith, more, rest)
    go false is rest = let same = count_cons_no q x xs is in omega (arith, same, rest)

lower : (n : ℕ) (flights : List Flight) → AreOfSeats (n + 1) flights → AreOfSeats n (others n flights)
lower n [] all = tt
lower n (x ∷ flights) all = go (nat_eq x.seat n) refl (lower n flights all.1)
  where
    go : (b : Bool) → nat_eq x.seat n ≡ b → AreOfSeats n (others n flights) → AreOfSeats n (cond (not b) (x ∷ others n flights) (others n flights))
    go true is rest = rest
    go false is rest = (let apart = eqb-false x.seat n is in let below = all.0 in omega (arith, apart, below), rest)

few_others : (n s : ℕ) (flights : List Flight) (most : ℕ) → flights_of s flights ≤ most → flights_of s (others n flights) ≤ most
few_others n s flights most few = let less = count_filter_le (is_by s) (λ (x : Flight). not (nat_eq x.seat n)) flights in omega (arith, less, few)

all_few : (n : ℕ) (flights : List Flight) → AreOfSeats n flights → ((s : ℕ) → flights_of s flights ≤ 16) → length flights ≤ 16 * n
all_few zero [] all few = omega arith
all_few zero (x ∷ flights) all few = absurd (let none = all.0 in omega (arith, none))
all_few (suc n) flights all few =
    let rest = all_few n (others n flights) (lower n flights (subst (λ (m : ℕ). AreOfSeats m flights) (omega arith) all)) (λ s. few_others n s flights 16 (few s)) in
    let own = few n in
    let whole = parted (is_by n) flights in
    omega (arith, rest, own, whole)

-- fewer, if one of the seats has fewer
one_fewer : (n : ℕ) (flights : List Flight) → AreOfSeats n flights → ((s : ℕ) → flights_of s flights ≤ 16) → (p : ℕ) → p < n → flights_of p flights ≤ 15 → length flights < 16 * n
one_fewer zero flights all few p there less = absurd (omega (arith, there))
one_fewer (suc n) flights all few p there less =
    let below : AreOfSeats n (others n flights) = lower n flights (subst (λ (m : ℕ). AreOfSeats m flights) (omega arith) all) in
    go (nat_eq p n) refl (all_few n (others n flights) below (λ s. few_others n s flights 16 (few s)))
    (λ within. one_fewer n (others n flights) below (λ s. few_others n s flights 16 (few s)) p within (few_others n p flights 15 less))
  where
    go : (b : Bool) → nat_eq p n ≡ b → length (others n flights) ≤ 16 * n → (p < n → length (others n flights) < 16 * n) → length flights < 16 * suc n
    go true is rest fewer =
        let own = subst (λ (s : ℕ). flights_of s flights ≤ 15) (eqb-true p n is) less in
        let whole = parted (is_by n) flights in
        omega (arith, rest, own, whole)
    go false is rest fewer =
        let apart = eqb-false p n is in
        let strictly = fewer (omega (arith, there, apart)) in
        let own = few n in
        let whole = parted (is_by n) flights in
        omega (arith, strictly, own, whole)

pub few_writes : (config : Config) (past : List Entry) (seat : Seat) (f : Pfn) (b : BlockId) → IsWellFormed config → IsRun config past → IsLegal config past (pager_after config past) (record { seat = seat; what = what.Out f b })
    → count_by is_writing (open_flights past) < 16 * (length config.procs + 2)
few_writes config past seat f b formed run legal =
    let room = begins config past (record { seat = seat; what = what.Out f b }) (record { start = length past + 1; seat = seat.0; frame = f.0; block = b; direction = writing }) formed run legal.in_turn refl in
    let there = legal.line.seat in
    let fewer = one_fewer (length config.procs + 2) (open_flights past) (of_seats config past run) (λ s. seat_few config past s formed run) seat.0 (omega (arith, there)) (omega (arith, room)) in
    let writes = count_by-le-length is_writing (open_flights past) in
    omega (arith, fewer, writes)
